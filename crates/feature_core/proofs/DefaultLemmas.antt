-- The features that are on by default, from the walk over the built edges.
use Rattle.std.proofs.Common.{◌≡◌, ℕ, ◌+◌, ◌<◌, ◌≤◌, ◌⊎◌, ⊎_elim, zero, suc, List, length, Bool, true, false, Option, Some, None, refl, sym, ap, ◌∙◌, subst, arith}
use Rattle.std.specs.Prelude.{◌↔◌, IsTrue, slice_set, replicate, codes}
use Rattle.std.proofs.lemmas.List.{length-map}
use Rattle.std.proofs.Math.Logic.{∥∥₁_elim, ∥∥₁_map, ∥∥₁_prop}
use Rattle.std.proofs.Math.Bool.{Bool-set}
use Rattle.digraphs.specs.Bits.{has}
use Rattle.feature_edges.specs.guppy_packages.Tables.{Tables}
use Rattle.feature_edges.specs.guppy_packages.declared.direction.DependencyDirection.TheVariants.{Forward}
use Rattle.feature_edges.specs.feature_labels.Names.{LabelName}
use Rattle.feature_edges.specs.feature_labels.Names.LabelName.{base, named}
use Rattle.feature_edges.specs.feature_links.declared.edge.EdgeChoice.TheVariants.{FeatureToBaseAndNamed}
use Rattle.feature_edges.specs.Nodes.{NodeAt, node_places, node_packages}
use Rattle.feature_edges.specs.Candidates.{Edge, Candidate, to_base, to_feature, to_dependency, over_strong, over_weak, with_dependency, with_feature, of_required, of_optional}
use Rattle.feature_edges.specs.feature_links.Facts.{EdgeFacts}
use Rattle.feature_edges.specs.Edges.{AreBuilt}
use Rattle.feature_edges.specs.Pairs.{Along, nowhere, onward, PairLeads, ReachAlong}
use Rattle.feature_edges.specs.Choices.{is_chosen_edge, chosen_pairs, ChosenEdge}
use Rattle.feature_core.specs.Defaults.{IsDefaultFeature, by_name, by_base, IsDefault}
use Rattle.feature_edges.proofs.AddsLemmas.{place_below}
use Rattle.feature_core.proofs.ChoiceLemmas.{chosen_pair}
use Rattle.guppy_support.proofs.AlongLemmas.{along_more, along_weaker}
use Rattle.feature_edges.proofs.Places.{got_same, node_back}
use Rattle.feature_edges.proofs.LabelLemmas.{one_base}
use Rattle.feature_core.proofs.WayNumbers.{marked_set, marked_grows, marked_cases}

-- node n is a label of package p
abbrev IsIn : Tables → ℕ → ℕ → Type 0
IsIn t p n = (l : LabelName) × NodeAt t n p l

never : {P : Type 0} → IsTrue false → P
never t = absurd (clash t)
  where
    clash : IsTrue false → ⊥
    clash t = cc

-- a node has one package
moved : (t : Tables) (u w p q : ℕ) (l : LabelName) → NodeAt t u q l → IsIn t p u → IsIn t q w → IsIn t p w
moved t u w p q l at h i =
    let e : (q, l) ≡ (p, h.0) = got_same (q, l) (p, h.0) (sym at ∙ h.1) in
    subst (λ z. IsIn t z w) (ap (λ z. z.0) e) i

not_chosen : {P : Type 0} (e f : Edge) → e ≡ f → IsTrue (is_chosen_edge FeatureToBaseAndNamed e) → is_chosen_edge FeatureToBaseAndNamed f ≡ false → P
not_chosen e f same t n = never (sym n ∙ ap (is_chosen_edge FeatureToBaseAndNamed) (sym same) ∙ t)

-- such an edge stays in its package
stays : (t : Tables) (u w p : ℕ) (e : Edge) → Candidate t u w e → IsTrue (is_chosen_edge FeatureToBaseAndNamed e) → IsIn t p u → IsIn t p w
stays t u w p e (to_base q l at other to is) c h = moved t u w p q l at h (base, to)
stays t u w p e (to_feature q f g item differ at to is) c h = moved t u w p q (named f) at h (named g, to)
stays t u w p e (to_dependency q f d item at to is) c h = not_chosen e _ is c refl
stays t u w p e (over_strong k link weak over apart is) c h = not_chosen e _ is c refl
stays t u w p e (over_weak k link over some is) c h = not_chosen e _ is c refl
stays t u w p e (with_dependency q f d g item at to is) c h = not_chosen e _ is c refl
stays t u w p e (with_feature q n f d g item at there differ to is) c h = not_chosen e _ is c refl
stays t u w p e (of_required s) c h = not_chosen e _ s.is_edge c refl
stays t u w p e (of_optional s) c h = not_chosen e _ s.is_edge c refl

starts_in : (t : Tables) (p n : ℕ) → IsDefaultFeature t p n → IsIn t p n
starts_in t p n (by_name at) = (named (codes "default"), at)
starts_in t p n (by_base none at) = (base, at)

-- a set closed under steps contains the end of each path from its members
along_in : (Step : ℕ → ℕ → Type 0) (S : ℕ → Type 0) → ((u w : ℕ) → Step u w → S u → S w) → (u w : ℕ) → Along Step u w → S u → S w
along_in Step S f u w (nowhere {u = a}) s = s
along_in Step S f u w (onward {u = a} {v = b} {w = c} step rest) s = along_in Step S f b c rest (f a b step s)

-- the marks of the walk are those of the definition
pub walked : (t : Tables) (edges : List (ℕ × ℕ × EdgeFacts)) (weak : List (ℕ × ℕ)) (initials marks : List Bool) → AreBuilt t edges weak
    → ((n : ℕ) → IsTrue (has initials n) ↔ ((p : ℕ) × IsDefaultFeature t p n))
    → ((n : ℕ) → IsTrue (has marks n) ↔ ReachAlong (PairLeads (chosen_pairs FeatureToBaseAndNamed edges) Forward) (has initials) n)
    → (n : ℕ) → IsTrue (has marks n) ↔ IsDefault t n
walked t edges weak initials marks built starts reached n = (
  (λ m.
      let r = (reached n).0 m in
      let d = (starts r.0).0 r.1 in
      let ends = along_in leads (λ k. ∥ IsIn t d.0 k ∥₁) (λ u w h s. ∥∥₁_elim (chosen u w h) ∥∥₁_prop (λ c. ∥∥₁_map s (λ i. stays t u w d.0 c.0 c.1.candidate c.2 i))) r.0 n r.2 ∣ starts_in t d.0 r.0 d.1 ∣₁ in
      ∥∥₁_map ends (λ e. (
        d.0,
        record {
          label = e.0;
          node = e.1;
          start = r.0;
          is_start = d.1;
          path = along_weaker chosen r.2;
        },
      ))),
  (λ h. ∥∥₁_elim h (Bool-set _ _) (λ x. along_in (ChosenEdge t FeatureToBaseAndNamed) (λ k. IsTrue (has marks k)) more x.1.start n x.1.path (first x.0 x.1.start x.1.is_start))),
)
  where
    leads : ℕ → ℕ → Type 0
    leads = PairLeads (chosen_pairs FeatureToBaseAndNamed edges) Forward

    chosen : (u w : ℕ) → leads u w → ChosenEdge t FeatureToBaseAndNamed u w
    chosen u w h = (chosen_pair t FeatureToBaseAndNamed edges weak built u w).0 h

    first : (p k : ℕ) → IsDefaultFeature t p k → IsTrue (has marks k)
    first p k d = (reached k).1 (k, (starts k).1 (p, d), nowhere)

    more : (u w : ℕ) → ChosenEdge t FeatureToBaseAndNamed u w → IsTrue (has marks u) → IsTrue (has marks w)
    more u w h m =
        let r = (reached u).0 m in
        (reached w).1 (r.0, r.1, along_more r.2 ((chosen_pair t FeatureToBaseAndNamed edges weak built u w).1 h))

-- a node is below the number of nodes
pub start_below : (t : Tables) (p n : ℕ) → IsDefaultFeature t p n → n < length (node_packages t)
start_below t p n d =
    let s = starts_in t p n d in
    let long : length (node_packages t) ≡ length (node_places t) = length-map (node_places t) (λ x. x.0) in
    let below : n < length (node_places t) = place_below (node_places t) n (p, s.0) s.1 in
    omega arith

none_some : {P : Type 0} (n : ℕ) → ◌≡◌ {A = Option ℕ} None (Some n) → P
none_some n e = absurd (clash e)
  where
    clash : ◌≡◌ {A = Option ℕ} None (Some n) → ⊥
    clash e = cc

-- the default feature, if the package has a feature of that name
pub default_found : (t : Tables) (p node : ℕ) → ((n : ℕ) → ◌≡◌ {A = Option ℕ} (Some node) (Some n) ↔ NodeAt t n p (named (codes "default"))) → (n : ℕ) → (node ≡ n) ↔ IsDefaultFeature t p n
default_found t p node h n = ((λ e. by_name ((h n).0 (ap Some e))), back n)
  where
    back : (n : ℕ) → IsDefaultFeature t p n → node ≡ n
    back n (by_name at) = got_same node n ((h n).1 at)
    back n (by_base none at) = absurd (none node ((h node).0 refl))

-- the default feature, if it has none
pub default_missing : (t : Tables) (p node : ℕ) → ((n : ℕ) → ◌≡◌ {A = Option ℕ} None (Some n) ↔ NodeAt t n p (named (codes "default"))) → NodeAt t node p base → (n : ℕ) → (node ≡ n) ↔ IsDefaultFeature t p n
default_missing t p node h is n = ((λ e. by_base (λ m at. none_some m ((h m).1 at)) (subst (λ z. NodeAt t z p base) e is)), back n)
  where
    back : (n : ℕ) → IsDefaultFeature t p n → node ≡ n
    back n (by_name at) = none_some n ((h n).1 at)
    back n (by_base none at) = one_base t p node n is at

-- the default features of the packages before p
abbrev pub Starts : Tables → ℕ → ℕ → Type 0
Starts t p n = (q : ℕ) × (q < p) × IsDefaultFeature t q n

pub none_start : (t : Tables) (m n : ℕ) → IsTrue (has (replicate m false) n) ↔ Starts t 0 n
none_start t m n = ((λ h. never (sym (nothing m n) ∙ h)), (λ s. absurd (omega (arith, s.1))))
  where
    nothing : (m n : ℕ) → has (replicate m false) n ≡ false
    nothing zero n = refl
    nothing (suc m) zero = refl
    nothing (suc m) (suc n) = nothing m n

pub next_start : (t : Tables) (p q node : ℕ) (set : List Bool) → q ≡ p → node < length set → ((n : ℕ) → (node ≡ n) ↔ IsDefaultFeature t q n) → ((n : ℕ) → IsTrue (has set n) ↔ Starts t p n) → (n : ℕ) → IsTrue (has (slice_set set node true) n) ↔ Starts t (p + 1) n
next_start t p q node set e within d h n = (
  (λ m. ⊎_elim
      (λ same. (p, omega arith, subst (λ z. IsDefaultFeature t z n) e ((d n).0 (sym same))))
      (λ old. let s = (h n).0 old in (s.0, omega (arith, s.1), s.2))
      (marked_cases set node n m)),
  (λ s. ⊎_elim
      (λ before. marked_grows set node n within ((h n).1 (s.0, before, s.2)))
      (λ last. subst (λ z. IsTrue (has (slice_set set node true) z)) ((d n).1 (subst (λ z. IsDefaultFeature t z n) (last ∙ sym e) s.2)) (marked_set set node within))
      (before_or_last s.0 p s.1)),
)
  where
    before_or_last : (a b : ℕ) → a < b + 1 → (a < b) ⊎ (a ≡ b)
    before_or_last a b l = grind arith

-- the same for all packages
pub all_starts : (t : Tables) (p : ℕ) (set : List Bool) → length t.packages ≤ p → ((n : ℕ) → IsTrue (has set n) ↔ Starts t p n) → (n : ℕ) → IsTrue (has set n) ↔ ((q : ℕ) × IsDefaultFeature t q n)
all_starts t p set long h n = (
  (λ m. let s = (h n).0 m in (s.0, s.2)),
  (λ s. (h n).1 (s.0, below s.0 s.1, s.1)),
)
  where
    below : (q : ℕ) → IsDefaultFeature t q n → q < p
    below q d =
        let s = starts_in t q n d in
        let row = node_back t n q s.0 s.1 in
        let l : q < length t.packages = place_below t.packages q row.row row.is_row in
        omega arith
