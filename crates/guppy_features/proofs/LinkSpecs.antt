-- The specs of the links of a feature graph are specs of declarations.
use Rattle.std.proofs.Common.{◌≡◌, ℕ, ◌+◌, ⊎_elim, List, [], ◌∷◌, Bool, true, false, not, Option, None, Some, map, refl, ap, sym, ◌∙◌, subst, if◌then◌else◌, is_some}
use Rattle.std.specs.Prelude.{filter, filter_map, flat_map, slice_get, Contains, IsTrue, ◌&&◌, ◌==◌}
use Rattle.std.specs.List.{list_any}
use Rattle.std.specs.Option.{option_map_or}
use Rattle.std.specs.Str.{bytes_eq}
use Rattle.std.proofs.Math.Bool.{Bool-set}
use Rattle.std.proofs.Math.Logic.{∥∥₁_elim}
use Rattle.guppy_packages.specs.Graph.{firsts}
use Rattle.guppy_packages.specs.Platform.{Status, never_status, always_status, spec_status, status_by}
use Rattle.guppy_packages.specs.Rows.{Text, Declared}
use Rattle.guppy_packages.specs.Tables.{LinkTable, Tables, has_name}
use Rattle.guppy_packages.specs.declared.row.DependencyKind.{DependencyKind}
use Rattle.guppy_packages.specs.declared.row.DependencyKind.TheVariants.{Normal, Build, Development}
use Rattle.feature_labels.specs.declared.link_declarations.LinkDeclarations.{LinkDeclarations}
use Rattle.feature_labels.specs.declared.link_declarations.LinkDeclarations.TheVariants.{Unsplit, Required as OfRequired, Optional as OfOptional}
use Rattle.walk_engine.specs.declared.walks.Half.{Half}
use Rattle.walk_engine.specs.declared.walks.Half.TheVariants.{Full, Required, Optional}
use Rattle.feature_links.specs.Facts.{EdgeFacts, base_edge, feature_edge, colon_edge, strong_edge, weak_edge, section_edge, link_at}
use Rattle.feature_links.specs.Links.{LinkFacts, IsLink, platforms_status, is_kind, includes, joined_status, over, numbered, links_named, by_name, has_declaration, half_of, half_over}
use Rattle.feature_core.specs.Built.{Built, IsBuilt}
use Rattle.feature_core.specs.Candidates.{Edge, feature_to_base, named_feature, dep_colon, slash_full, slash_optional, slash_weak, section, Candidate, to_base, to_feature, to_dependency, over_strong, over_weak, with_dependency, with_feature, of_required, of_optional, IsSection, requesting, unsplit_of}
use Rattle.feature_core.specs.Edges.{facts_of, weak_facts}
use Rattle.feature_core.proofs.AddsLemmas.{Contains-first, Contains-later, Contains-cases, Contains-none, element_at_place}
use Rattle.feature_core.proofs.PushLemmas.{from_filter, from_map}
use Rattle.feature_graph.specs.LinkValues.{status_for}
use Rattle.guppy_features.specs.graph_platforms.DeclaredSpecs.{link_specs, declared_specs}
use Rattle.guppy_features.proofs.Members.{text_any, from_firsts, from_some, from_flat_map, into_flat_map, into_filter_map}

-- the specs of a status
abbrev pub status_specs : Status → List Text
status_specs never_status = []
status_specs always_status = []
status_specs (spec_status specs) = specs

by_specs : (specs : List Text) → status_specs (status_by specs) ≡ specs
by_specs [] = refl
by_specs (s ∷ specs) = refl

-- the specs of the status over platforms
joined_from : (platforms : List (Option Text)) (text : Text) → Contains (status_specs (platforms_status platforms)) text → Contains platforms (Some text)
joined_from platforms text h = go (list_any (λ p. not (is_some p)) platforms) h
  where
    go : (b : Bool) → Contains (status_specs (if b then always_status else status_by (firsts bytes_eq (filter_map (λ p. p) platforms)))) text → Contains platforms (Some text)
    go true i = absurd (Contains-none text i)
    go false i = from_some platforms text (from_firsts bytes_eq (filter_map (λ p. p) platforms) text (subst (λ z. Contains z text) (by_specs (firsts bytes_eq (filter_map (λ p. p) platforms))) i))

module _ (t : Tables) where
  abbrev AreLinks : List (ℕ × LinkTable) → Type 0
  AreLinks links = (l : ℕ × LinkTable) → Contains links l → Contains t.links l.1

  abbrev AreDeclared : Status → Type 0
  AreDeclared status = (text : Text) → Contains (status_specs status) text → Contains (declared_specs t) text

  status_declared : (kind : DependencyKind) (passes : Declared → Bool) (links : List (ℕ × LinkTable)) → AreLinks links → AreDeclared (joined_status kind passes links)
  status_declared kind passes links are text h =
      let covered : (ℕ × LinkTable) → List Declared = λ l. filter (λ d. passes d && is_kind kind d.kind) l.1.declarations in
      let platforms : (ℕ × LinkTable) → List (Option Text) = λ l. map (λ d. d.platform) (covered l) in
      let l = from_flat_map platforms links (Some text) (joined_from (flat_map platforms links) text h) in
      let d = from_map (λ (d : Declared). d.platform) (covered l.0) (Some text) l.2 in
      let declared : Contains l.0.1.declarations d.0 = (from_filter (λ d. passes d && is_kind kind d.kind) l.0.1.declarations d.0 d.1).0 in
      into_flat_map link_specs t.links l.0.1 text (are l.0 l.1) (into_filter_map (λ (d : Declared). d.platform) l.0.1.declarations d.0 text declared d.2)

  -- the specs of a link are declared
  abbrev IsDeclared : LinkFacts → Type 0
  IsDeclared l = (kind : DependencyKind) → AreDeclared (status_for kind l)

  over_declared : (which : LinkDeclarations) (passes : Declared → Bool) (links : List (ℕ × LinkTable)) → AreLinks links → IsDeclared (over which passes links)
  over_declared which passes links are Normal = status_declared Normal passes links are
  over_declared which passes links are Build = status_declared Build passes links are
  over_declared which passes links are Development = status_declared Development passes links are

  one_link : (k : ℕ) (link : LinkTable) → IsLink t k link → AreLinks ((k, link) ∷ [])
  one_link k link is l h = ⊎_elim
      (λ e. subst (λ z. Contains t.links z.1) e (element_at_place t.links k link is))
      (λ i. absurd (Contains-none l i))
      (Contains-cases (k, link) [] l h)

  numbered_from : (q : ℕ) (ls : List LinkTable) (l : ℕ × LinkTable) → Contains (numbered q ls) l → Contains ls l.1
  numbered_from q [] l h = absurd (Contains-none l h)
  numbered_from q (x ∷ ls) l h = ⊎_elim
      (λ e. subst (λ z. Contains (x ∷ ls) z.1) e (Contains-first x ls))
      (λ i. Contains-later x ls l.1 (numbered_from (q + 1) ls l i))
      (Contains-cases (q, x) (numbered (q + 1) ls) l h)

  named_links : (p : ℕ) (name : Text) → AreLinks (links_named t p name)
  named_links p name l h = numbered_from 0 t.links l (from_filter (λ x. (x.1.from == p) && bytes_eq x.1.name name) (numbered 0 t.links) l h).0

  named_declared : (p : ℕ) (which : LinkDeclarations) (name : Text) → IsDeclared (by_name t p which name)
  named_declared p which name = over_declared which (λ d. includes which d) (links_named t p name) (named_links p name)

  got_link : (m l : LinkFacts) → ◌≡◌ {A = Option LinkFacts} (Some m) (Some l) → IsDeclared m → IsDeclared l
  got_link m l e h =
      let same : m ≡ l = cc in
      subst (λ z. IsDeclared z) same h

  half_declared : (which : LinkDeclarations) (k : ℕ) (l : LinkFacts) → half_of t which k ≡ Some l → IsDeclared l
  half_declared which k l e = at (slice_get t.links k) refl e
    where
      covered : (link : LinkTable) → IsLink t k link → (b : Bool) → ◌≡◌ {A = Option LinkFacts} (if b then Some (over which (λ d. includes which d) ((k, link) ∷ [])) else None) (Some l) → IsDeclared l
      covered link is true i = got_link (over which (λ d. includes which d) ((k, link) ∷ [])) l i (over_declared which (λ d. includes which d) ((k, link) ∷ []) (one_link k link is))
      covered link is false i = cc

      at : (o : Option LinkTable) → slice_get t.links k ≡ o → option_map_or (half_over which k) o None ≡ Some l → IsDeclared l
      at None is i = cc
      at (Some link) is i = covered link is (has_declaration which link) i

  -- the specs of each link of an edge are declared
  abbrev IsDeclaredEdge : EdgeFacts → Type 0
  IsDeclaredEdge f = (h : Half) (l : LinkFacts) → link_at f h ≡ Some l → IsDeclared l

  base_declared : IsDeclaredEdge base_edge
  base_declared Full l e = cc
  base_declared Required l e = cc
  base_declared Optional l e = cc

  feature_declared : IsDeclaredEdge feature_edge
  feature_declared Full l e = cc
  feature_declared Required l e = cc
  feature_declared Optional l e = cc

  colon_declared : (m : LinkFacts) → IsDeclared m → IsDeclaredEdge (colon_edge m)
  colon_declared m d Full l e = got_link m l e d
  colon_declared m d Required l e = cc
  colon_declared m d Optional l e = cc

  strong_declared : (m : LinkFacts) → IsDeclared m → IsDeclaredEdge (strong_edge m)
  strong_declared m d Full l e = got_link m l e d
  strong_declared m d Required l e = cc
  strong_declared m d Optional l e = cc

  section_declared : (m : LinkFacts) → IsDeclared m → IsDeclaredEdge (section_edge m)
  section_declared m d Full l e = got_link m l e d
  section_declared m d Required l e = cc
  section_declared m d Optional l e = cc

  weak_declared : (m : LinkFacts) (weak : List ℕ) (k : ℕ) → IsDeclared m → IsDeclaredEdge (weak_edge m (weak_facts t weak k))
  weak_declared m weak k d Full l e = got_link m l e d
  weak_declared m weak k d Required l e = half_declared OfRequired k l e
  weak_declared m weak k d Optional l e = half_declared OfOptional k l e

  unsplit_declared : (k : ℕ) (link : LinkTable) → IsLink t k link → IsDeclared (unsplit_of k link)
  unsplit_declared k link is = over_declared Unsplit (λ d. true) ((k, link) ∷ []) (one_link k link is)

  abbrev IsDeclaredCandidate : Edge → Type 0
  IsDeclaredCandidate e = (weak : List ℕ) → IsDeclaredEdge (facts_of t weak e)

  candidate_as : (e other : Edge) → e ≡ other → IsDeclaredCandidate other → IsDeclaredCandidate e
  candidate_as e other is h = subst (λ z. IsDeclaredCandidate z) (sym is) h

  section_candidate : (u w : ℕ) (which : LinkDeclarations) (label : LinkTable → _) (e : Edge) → IsSection t u w which label e → IsDeclaredCandidate e
  section_candidate u w which label e s =
      let link : LinkFacts = over which (requesting s.asked which) ((s.k, s.link) ∷ []) in
      candidate_as e (section link) s.is_edge (λ weak. section_declared link (over_declared which (requesting s.asked which) ((s.k, s.link) ∷ []) (one_link s.k s.link s.is_link)))

  candidate_declared : (u w : ℕ) (e : Edge) → Candidate t u w e → IsDeclaredCandidate e
  candidate_declared u w e (to_base p label from differ to is) = candidate_as e feature_to_base is (λ weak. base_declared)
  candidate_declared u w e (to_feature p f g item differ from to is) = candidate_as e named_feature is (λ weak. feature_declared)
  candidate_declared u w e (to_dependency p f d item from to is) = candidate_as e (dep_colon (by_name t p Unsplit d)) is (λ weak. colon_declared (by_name t p Unsplit d) (named_declared p Unsplit d))
  candidate_declared u w e (over_strong k link weak leads strong is) = candidate_as e (slash_full (unsplit_of k link)) is (λ weak. strong_declared (unsplit_of k link) (unsplit_declared k link leads.is_link))
  candidate_declared u w e (over_weak k link leads has is) = candidate_as e (slash_weak k (unsplit_of k link)) is (λ weak. weak_declared (unsplit_of k link) weak k (unsplit_declared k link leads.is_link))
  candidate_declared u w e (with_dependency p f d g item from to is) = candidate_as e (slash_optional (by_name t p OfOptional d)) is (λ weak. strong_declared (by_name t p OfOptional d) (named_declared p OfOptional d))
  candidate_declared u w e (with_feature p n f d g item from beside differ to is) = candidate_as e (slash_optional (by_name t p OfOptional d)) is (λ weak. strong_declared (by_name t p OfOptional d) (named_declared p OfOptional d))
  candidate_declared u w e (of_required s) = section_candidate u w OfRequired _ e s
  candidate_declared u w e (of_optional s) = section_candidate u w OfOptional _ e s

  -- the specs of each link of a built edge are declared
  pub built_declared : (b : Built) → IsBuilt t b → (n : ℕ) (e : ℕ × ℕ × EdgeFacts) → slice_get b.edges n ≡ Some e → (h : Half) (l : LinkFacts) → link_at e.2 h ≡ Some l
      → (kind : DependencyKind) (text : Text) → Contains (status_specs (status_for kind l)) text → IsTrue (has_name text (declared_specs t))
  built_declared b is n e at h l has kind text i =
      ∥∥₁_elim
      ((is.edges.exact e.0 e.1 e.2).0 (element_at_place b.edges n e at))
      (Bool-set _ _)
      (λ s. text_any (declared_specs t) text (candidate_declared e.0 e.1 s.0 s.1.candidate (map (λ x. x.0) b.weak) h l (ap (λ f. link_at f h) (sym s.2) ∙ has) kind text i))
