-- The package links of the links of edges are links of the tables.
use Rattle.std.proofs.Common.{◌≡◌, ℕ, ◌+◌, ◌<◌, ⊎_elim, List, [], ◌∷◌, length, Bool, true, false, cond, Option, Some, None, refl, ap, sym, ◌∙◌, subst, arith}
use Rattle.std.specs.Prelude.{slice_get, filter, Contains, ◌==◌, ◌&&◌}
use Rattle.std.specs.Option.{option_map_or}
use Rattle.std.specs.List.{list_any}
use Rattle.std.specs.Str.{bytes_eq}
use Rattle.std.proofs.Math.Logic.{∥∥₁_elim}
use Rattle.std.proofs.Props.{props}
use Rattle.feature_edges.specs.guppy_packages.Rows.{Text, Declared}
use Rattle.feature_edges.specs.guppy_packages.Tables.{LinkTable, Tables}
use Rattle.feature_edges.specs.feature_labels.Names.{LabelName}
use Rattle.feature_edges.specs.feature_labels.Names.LabelName.{base, optional}
use Rattle.feature_edges.specs.feature_labels.declared.link_declarations.LinkDeclarations.{LinkDeclarations}
use Rattle.feature_edges.specs.feature_labels.declared.link_declarations.LinkDeclarations.TheVariants as covered
use Rattle.walk_engine.specs.declared.walks.Half.{Half}
use Rattle.walk_engine.specs.declared.walks.Half.TheVariants.{Full, Required, Optional}
use Rattle.feature_core.specs.Built.{Built, IsBuilt}
use Rattle.feature_edges.specs.Candidates.{Edge, Candidate, IsSection, feature_to_base, named_feature, dep_colon, slash_full, slash_optional, slash_weak, section, to_base, to_feature, to_dependency, over_strong, over_weak, with_dependency, with_feature, of_required, of_optional, unsplit_of, requesting}
use Rattle.feature_edges.specs.feature_links.Links.{by_name, half_of, half_over, LinkFacts, IsLink, over, includes, has_declaration, numbered, links_named}
use Rattle.feature_edges.specs.Edges.{facts_of}
use Rattle.feature_edges.specs.feature_links.Facts.{link_at}
use Rattle.feature_core.specs.Offers.{IsLinkOf}
use Rattle.feature_edges.proofs.AddsLemmas.{Contains-cases, Contains-none, element_at_place, place_below}
use Rattle.feature_core.proofs.OfferLemmas.{numbers, says}
use Rattle.feature_edges.proofs.Places.{got_same}
use Rattle.feature_edges.proofs.PushLemmas.{from_filter, from_map}

-- the package links of a link are links of the tables
abbrev AreLinks : Tables → LinkFacts → Type 0
AreLinks t l = (i k : ℕ) → slice_get l.package_links i ≡ Some k → k < length t.links

over_links : (t : Tables) (which : LinkDeclarations) (passes : Declared → Bool) (links : List (ℕ × LinkTable)) → ((z : ℕ × LinkTable) → Contains links z → z.0 < length t.links) → AreLinks t (over which passes links)
over_links t which passes links within i k at =
    let test : ℕ × LinkTable → Bool = λ l. list_any passes l.1.declarations in
    let z = from_map (λ (l : ℕ × LinkTable). l.0) (filter test links) k (element_at_place (over which passes links).package_links i k at) in
    let c = from_filter test links z.0 z.1 in
    subst (λ n. n < length t.links) z.2 (within z.0 c.0)

numbered_below : (q : ℕ) (ls : List LinkTable) (z : ℕ × LinkTable) → Contains (numbered q ls) z → z.0 < q + length ls
numbered_below q [] z h = absurd (Contains-none z h)
numbered_below q (l ∷ ls) z h =
    ⊎_elim
    (λ e. let same : q ≡ z.0 = ap (λ y. y.0) e in omega (arith, same))
    (λ i. let below = numbered_below (q + 1) ls z i in omega (arith, below))
    (Contains-cases (q, l) (numbered (q + 1) ls) z h)

name_links : (t : Tables) (p : ℕ) (which : LinkDeclarations) (d : Text) → AreLinks t (by_name t p which d)
name_links t p which d =
    over_links t which (λ x. includes which x) (links_named t p d) (λ z c.
    let f = from_filter (λ (l : ℕ × LinkTable). (l.1.from == p) && bytes_eq l.1.name d) (numbered 0 t.links) z c in
    let below = numbered_below 0 t.links z f.0 in
    omega (arith, below))

one_link : (t : Tables) (which : LinkDeclarations) (passes : Declared → Bool) (k : ℕ) (link : LinkTable) → IsLink t k link → AreLinks t (over which passes ((k, link) ∷ []))
one_link t which passes k link is =
    over_links t which passes ((k, link) ∷ []) (λ z c.
    ⊎_elim
    (λ e. subst (λ n. n < length t.links) (ap (λ y. y.0) e) (place_below t.links k link is))
    (λ i. absurd (Contains-none z i))
    (Contains-cases (k, link) [] z c))

half_is : (t : Tables) (which : LinkDeclarations) (k : ℕ) (l : LinkFacts) → half_of t which k ≡ Some l → (link : LinkTable) × IsLink t k link × (l ≡ over which (λ d. includes which d) ((k, link) ∷ []))
half_is t which k l h = go (slice_get t.links k) refl h
  where
    kept : (link : LinkTable) (b : Bool) → cond {A = Option LinkFacts} b (Some (over which (λ d. includes which d) ((k, link) ∷ []))) None ≡ Some l → l ≡ over which (λ d. includes which d) ((k, link) ∷ [])
    kept link true e = sym (got_same (over which (λ d. includes which d) ((k, link) ∷ [])) l e)
    kept link false e = cc

    go : (o : Option LinkTable) → slice_get t.links k ≡ o → option_map_or (half_over which k) o None ≡ Some l → (link : LinkTable) × IsLink t k link × (l ≡ over which (λ d. includes which d) ((k, link) ∷ []))
    go None e i = cc
    go (Some link) e i = (link, e, kept link (has_declaration which link) i)

-- a half covers its own declarations
pub half_declares : (t : Tables) (which : LinkDeclarations) (k : ℕ) (l : LinkFacts) → half_of t which k ≡ Some l → l.declarations ≡ which
half_declares t which k l h = let s = half_is t which k l h in ap (λ (z : LinkFacts). z.declarations) s.2

half_links : (t : Tables) (which : LinkDeclarations) (k : ℕ) (l : LinkFacts) → half_of t which k ≡ Some l → AreLinks t l
half_links t which k l h = let s = half_is t which k l h in subst (AreLinks t) (sym s.2) (one_link t which (λ d. includes which d) k s.0 s.1)

-- each link of a built edge
abbrev HasLinks : Tables → Edge → Type 0
HasLinks t e = (weak : List ℕ) (h : Half) (l : LinkFacts) → link_at (facts_of t weak e) h ≡ Some l → AreLinks t l

same_links : (t : Tables) (m l : LinkFacts) → ◌≡◌ {A = Option LinkFacts} (Some m) (Some l) → AreLinks t m → AreLinks t l
same_links t m l e h = subst (AreLinks t) (got_same m l e) h

has_of : (t : Tables) (e other : Edge) → e ≡ other → HasLinks t other → HasLinks t e
has_of t e other is h = subst (HasLinks t) (sym is) h

no_links : {P : Type 0} (l : LinkFacts) → ◌≡◌ {A = Option LinkFacts} None (Some l) → P
no_links {P} l e = absurd (never e)
  where
    never : ◌≡◌ {A = Option LinkFacts} None (Some l) → ⊥
    never e = cc

base_links : (t : Tables) → HasLinks t feature_to_base
base_links t weak Full l h = no_links l h
base_links t weak Required l h = no_links l h
base_links t weak Optional l h = no_links l h

feature_links : (t : Tables) → HasLinks t named_feature
feature_links t weak Full l h = no_links l h
feature_links t weak Required l h = no_links l h
feature_links t weak Optional l h = no_links l h

colon_links : (t : Tables) (m : LinkFacts) → AreLinks t m → HasLinks t (dep_colon m)
colon_links t m a weak Full l h = same_links t m l h a
colon_links t m a weak Required l h = no_links l h
colon_links t m a weak Optional l h = no_links l h

full_links : (t : Tables) (m : LinkFacts) → AreLinks t m → HasLinks t (slash_full m)
full_links t m a weak Full l h = same_links t m l h a
full_links t m a weak Required l h = no_links l h
full_links t m a weak Optional l h = no_links l h

beside_links : (t : Tables) (m : LinkFacts) → AreLinks t m → HasLinks t (slash_optional m)
beside_links t m a weak Full l h = same_links t m l h a
beside_links t m a weak Required l h = no_links l h
beside_links t m a weak Optional l h = no_links l h

section_links : (t : Tables) (m : LinkFacts) → AreLinks t m → HasLinks t (section m)
section_links t m a weak Full l h = same_links t m l h a
section_links t m a weak Required l h = no_links l h
section_links t m a weak Optional l h = no_links l h

weak_links : (t : Tables) (k : ℕ) (m : LinkFacts) → AreLinks t m → HasLinks t (slash_weak k m)
weak_links t k m a weak Full l h = same_links t m l h a
weak_links t k m a weak Required l h = half_links t covered.Required k l h
weak_links t k m a weak Optional l h = half_links t covered.Optional k l h

requested_links : (t : Tables) (u w : ℕ) (which : LinkDeclarations) (label : LinkTable → LabelName) (e : Edge) → IsSection t u w which label e → HasLinks t e
requested_links t u w which label e s = has_of t e (section (over which (requesting s.asked which) ((s.k, s.link) ∷ []))) s.is_edge (section_links t (over which (requesting s.asked which) ((s.k, s.link) ∷ [])) (one_link t which (requesting s.asked which) s.k s.link s.is_link))

candidate_links : (t : Tables) (u w : ℕ) (e : Edge) → Candidate t u w e → HasLinks t e
candidate_links t u w e (to_base p label from differ to is) = has_of t e feature_to_base is (base_links t)
candidate_links t u w e (to_feature p f g item differ from to is) = has_of t e named_feature is (feature_links t)
candidate_links t u w e (to_dependency p f d item from to is) = has_of t e (dep_colon (by_name t p covered.Unsplit d)) is (colon_links t (by_name t p covered.Unsplit d) (name_links t p covered.Unsplit d))
candidate_links t u w e (over_strong k link weak leads strong is) = has_of t e (slash_full (unsplit_of k link)) is (full_links t (unsplit_of k link) (one_link t covered.Unsplit (λ d. true) k link leads.is_link))
candidate_links t u w e (over_weak k link leads has is) = has_of t e (slash_weak k (unsplit_of k link)) is (weak_links t k (unsplit_of k link) (one_link t covered.Unsplit (λ d. true) k link leads.is_link))
candidate_links t u w e (with_dependency p f d g item from to is) = has_of t e (slash_optional (by_name t p covered.Optional d)) is (beside_links t (by_name t p covered.Optional d) (name_links t p covered.Optional d))
candidate_links t u w e (with_feature p n f d g item from beside differ to is) = has_of t e (slash_optional (by_name t p covered.Optional d)) is (beside_links t (by_name t p covered.Optional d) (name_links t p covered.Optional d))
candidate_links t u w e (of_required s) = requested_links t u w covered.Required (λ link. base) e s
candidate_links t u w e (of_optional s) = requested_links t u w covered.Optional (λ link. optional link.name) e s

pub numbers_within : (t : Tables) (b : Built) (e : ℕ) (h : Half) (l : LinkFacts) (i k : ℕ) → IsBuilt t b → IsLinkOf b e h l → slice_get l.package_links i ≡ Some k → k < length t.links
numbers_within t b e h l i k built of at =
    let x = of.edge in
    let below : IsProp (k < length t.links) = hlevel props in
    ∥∥₁_elim (says t b e x built of.is_edge) below (λ s.
    candidate_links t x.0 x.1 s.0 s.1.candidate (numbers b) h l (ap (λ f. link_at f h) (sym s.2) ∙ of.is_link) i k at)
