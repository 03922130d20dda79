-- Reach over chosen pairs and over chosen edges of the tables.
use Rattle.std.proofs.Common.{◌≡◌, ℕ, ◌⊎◌, ⊎_elim, inl, inr, List, [], ◌∷◌, map, Bool, refl, sym, ap, ◌∙◌, subst}
use Rattle.std.specs.Prelude.{◌↔◌, ◌==◌, Contains, filter}
use Rattle.std.proofs.Math.Logic.{∥∥₁_elim, ∥∥₁_map}
use Rattle.feature_edges.specs.guppy_packages.Tables.{Tables}
use Rattle.feature_edges.specs.guppy_packages.declared.direction.DependencyDirection.{DependencyDirection}
use Rattle.feature_edges.specs.guppy_packages.declared.direction.DependencyDirection.TheVariants.{Forward, Reverse}
use Rattle.feature_edges.specs.feature_links.declared.edge.EdgeChoice.{EdgeChoice}
use Rattle.feature_edges.specs.feature_links.declared.edge.EdgeChoice.TheVariants.{All, FeatureToBaseAndNamed}
use Rattle.feature_edges.specs.Candidates.{Edge, feature_to_base, named_feature, dep_colon, slash_full, slash_optional, slash_weak, section, IsEdge}
use Rattle.feature_edges.specs.feature_links.Facts.{EdgeFacts}
use Rattle.feature_edges.specs.Edges.{AreBuilt, facts_of}
use Rattle.feature_edges.specs.Pairs.{PairLeads, Reach, ReachAlong}
use Rattle.feature_core.specs.Built.{Built, IsBuilt, ends_of}
use Rattle.feature_edges.specs.Choices.{is_chosen, chosen_pairs, is_chosen_edge, ChosenEdge, ChosenLeads, ChosenReach}
use Rattle.std.proofs.lemmas.Bool.{eqb-true, eqb-false}
use Rattle.feature_core.proofs.Answered.{decide}
use Rattle.feature_edges.proofs.AddsLemmas.{Contains-first, Contains-later, Contains-cases, Contains-none}
use Rattle.feature_core.proofs.PairReach.{member_alike}
use Rattle.guppy_support.proofs.AlongLemmas.{along_weaker}
use Rattle.feature_edges.proofs.PushLemmas.{from_filter, into_filter, from_map, into_map}

-- `All` chooses all edges
all_kept : (edges : List (ℕ × ℕ × EdgeFacts)) → filter (λ e. is_chosen All e.2) edges ≡ edges
all_kept [] = refl
all_kept (e ∷ edges) = ap (λ z. e ∷ z) (all_kept edges)

pub all_chosen : (edges : List (ℕ × ℕ × EdgeFacts)) → chosen_pairs All edges ≡ ends_of edges
all_chosen edges = ap ends_of (all_kept edges)

-- an edge is chosen if and only if its built edge is
chosen_same : (which : EdgeChoice) (t : Tables) (weak : List ℕ) (e : Edge) → is_chosen which (facts_of t weak e) ≡ is_chosen_edge which e
chosen_same All t weak e = refl
chosen_same FeatureToBaseAndNamed t weak feature_to_base = refl
chosen_same FeatureToBaseAndNamed t weak named_feature = refl
chosen_same FeatureToBaseAndNamed t weak (dep_colon l) = refl
chosen_same FeatureToBaseAndNamed t weak (slash_full l) = refl
chosen_same FeatureToBaseAndNamed t weak (slash_optional l) = refl
chosen_same FeatureToBaseAndNamed t weak (slash_weak k l) = refl
chosen_same FeatureToBaseAndNamed t weak (section l) = refl

same_or_not : (a b : ℕ × ℕ) → (a ≡ b) ⊎ (a ≡ b → ⊥)
same_or_not (a, b) (c, d) = ⊎_elim
    (λ p.
    ⊎_elim
    (λ q. inl (ap (λ z. (z, b)) (eqb-true a c p) ∙ ap (λ z. (c, z)) (eqb-true b d q)))
    (λ q. inr (λ e. eqb-false b d q (ap (λ z. z.1) e)))
    (decide (b == d)))
    (λ p. inr (λ e. eqb-false a c p (ap (λ z. z.0) e)))
    (decide (a == c))

-- a pair of numbers is in a list or not
stands_or_not : (pairs : List (ℕ × ℕ)) (x : ℕ × ℕ) → Contains pairs x ⊎ (Contains pairs x → ⊥)
stands_or_not [] x = inr (λ h. Contains-none x h)
stands_or_not (p ∷ pairs) x = ⊎_elim
    (λ e. inl (subst (λ z. Contains (p ∷ pairs) z) e (Contains-first p pairs)))
    (λ n.
    ⊎_elim
    (λ h. inl (Contains-later p pairs x h))
    (λ m. inr (λ h. ⊎_elim n m (Contains-cases p pairs x h)))
    (stands_or_not pairs x))
    (same_or_not p x)

stands : (pairs : List (ℕ × ℕ)) (x : ℕ × ℕ) → ∥ Contains pairs x ∥₁ → Contains pairs x
stands pairs x h = ⊎_elim (λ c. c) (λ n. absurd (∥∥₁_elim h (λ p q. absurd p) n)) (stands_or_not pairs x)

-- a chosen pair is that of a chosen edge of the tables
pub chosen_pair : (t : Tables) (which : EdgeChoice) (edges : List (ℕ × ℕ × EdgeFacts)) (weak : List (ℕ × ℕ)) → AreBuilt t edges weak → (u w : ℕ) → Contains (chosen_pairs which edges) (u, w) ↔ ChosenEdge t which u w
chosen_pair t which edges weak built u w = (
  (λ h.
      let x = from_map (λ e. (e.0, e.1)) (filter (λ e. is_chosen which e.2) edges) (u, w) h in
      let kept = from_filter (λ e. is_chosen which e.2) edges x.0 x.1 in
      let from : x.0.0 ≡ u = ap (λ z. z.0) x.2 in
      let to : x.0.1 ≡ w = ap (λ z. z.1) x.2 in
      ∥∥₁_map
      ((built.exact x.0.0 x.0.1 x.0.2).0 kept.0)
      (λ s. (
        s.0,
        subst (λ z. IsEdge t u z s.0) to (subst (λ z. IsEdge t z x.0.1 s.0) from s.1),
        sym (chosen_same which t (map (λ x. x.0) weak) s.0) ∙ ap (is_chosen which) (sym s.2) ∙ kept.1,
      ))),
  (λ h. stands (chosen_pairs which edges) (u, w) (∥∥₁_map h (λ s.
      let f : EdgeFacts = facts_of t (map (λ x. x.0) weak) s.0 in
      let listed : Contains edges (u, w, f) = (built.exact u w f).1 ∣ (s.0, s.1, refl) ∣₁ in
      into_map (λ x. (x.0, x.1)) (filter (λ x. is_chosen which x.2) edges) (u, w, f)
      (into_filter (λ x. is_chosen which x.2) edges (u, w, f) listed (chosen_same which t (map (λ x. x.0) weak) s.0 ∙ s.2))))),
)

chosen_leads : (t : Tables) (b : Built) (which : EdgeChoice) (direction : DependencyDirection) → IsBuilt t b → (u w : ℕ) → PairLeads (chosen_pairs which b.edges) direction u w ↔ ChosenLeads t which direction u w
chosen_leads t b which Forward x u w = chosen_pair t which b.edges b.weak x.edges u w
chosen_leads t b which Reverse x u w = chosen_pair t which b.edges b.weak x.edges w u

-- the reach over the chosen pairs is the reach over the chosen edges
pub chosen_alike : (t : Tables) (b : Built) (which : EdgeChoice) (direction : DependencyDirection) (initials : ℕ → Bool) (n : ℕ) (P : Type 0) → IsBuilt t b → (P ↔ ReachAlong (PairLeads (chosen_pairs which b.edges) direction) initials n) → (P ↔ ChosenReach t which direction initials n)
chosen_alike t b which direction initials n P x both = (
  (λ p. let r = both.0 p in (r.0, r.1, along_weaker (λ u w. (chosen_leads t b which direction x u w).0) r.2)),
  (λ r. both.1 (r.0, r.1, along_weaker (λ u w. (chosen_leads t b which direction x u w).1) r.2)),
)

-- if all are chosen, it is the reach over all edges
pub all_alike : (t : Tables) (b : Built) (which : EdgeChoice) (direction : DependencyDirection) (initials : ℕ → Bool) (n : ℕ) (P : Type 0) → which ≡ All → IsBuilt t b → (P ↔ ReachAlong (PairLeads (chosen_pairs which b.edges) direction) initials n) → (P ↔ Reach t direction initials n)
all_alike t b which direction initials n P all x both =
    let same : chosen_pairs which b.edges ≡ ends_of b.edges = ap (λ z. chosen_pairs z b.edges) all ∙ all_chosen b.edges in
    member_alike t b direction initials n P x (subst (λ z. P ↔ ReachAlong (PairLeads z direction) initials n) same both)
