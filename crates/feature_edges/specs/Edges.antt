-- The built edges, and the weak links that they name.
use Rattle.std.specs.Prelude.{◌≡◌, ℕ, ◌⊎◌, ◌<◌, List, [], ◌∷◌, length, not, ◌==◌, Option, None, Some, map, filter, filter_map, position, slice_get, Contains, AllPairs, ◌↔◌}
use Rattle.std.specs.Option.{option_map_or}
use Rattle.guppy_packages.specs.Tables.{LinkTable, Tables}
use Rattle.feature_labels.specs.Names.LabelName.{optional}
use Rattle.feature_labels.specs.declared.link_declarations.LinkDeclarations.TheVariants.{Required, Optional}
use Rattle.feature_edges.specs.Nodes.{NodeAt}
use Rattle.feature_links.specs.Links.{IsLink, half_of}
use Rattle.feature_edges.specs.Candidates.{Edge, feature_to_base, named_feature, dep_colon, slash_full, slash_optional, slash_weak, section, IsEdge}
use Rattle.feature_links.specs.Facts.{WeakFacts, EdgeFacts, base_edge, feature_edge, colon_edge, strong_edge, weak_edge, section_edge}

-- Sorted by source and then by target.
abbrev pub EdgeBefore : ℕ × ℕ × EdgeFacts → ℕ × ℕ × EdgeFacts → Type 0
EdgeBefore a b = (a.0 < b.0) ⊎ ((a.0 ≡ b.0) × (a.1 < b.1))

-- The package link of a weak edge: the only one that its link is over.
abbrev pub weak_link : EdgeFacts → Option ℕ
weak_link base_edge = None
weak_link feature_edge = None
weak_link (colon_edge l) = None
weak_link (strong_edge l) = None
weak_link (weak_edge l halves) = slice_get l.package_links 0
weak_link (section_edge l) = None

-- Each number once, in the order of first appearance.
abbrev pub first_ones : List ℕ → List ℕ
first_ones [] = []
first_ones (x ∷ xs) = x ∷ filter (λ y. not (x == y)) (first_ones xs)

-- The package links of the weak edges, in the order of first appearance.
abbrev pub weak_links : List (ℕ × ℕ × EdgeFacts) → List ℕ
weak_links edges = first_ones (filter_map (λ e. weak_link e.2) edges)

-- The halves of a weak edge over package link `k`, if `weak` are the weak links.
abbrev pub weak_facts : Tables → List ℕ → ℕ → WeakFacts
weak_facts t weak k = record {
  index = option_map_or (λ i. i) (position (λ j. k == j) weak) 0;
  required = half_of t Required k;
  optional = half_of t Optional k;
}

-- The built edge of an edge of the tables.
abbrev pub facts_of : Tables → List ℕ → Edge → EdgeFacts
facts_of t weak feature_to_base = base_edge
facts_of t weak named_feature = feature_edge
facts_of t weak (dep_colon l) = colon_edge l
facts_of t weak (slash_full l) = strong_edge l
facts_of t weak (slash_optional l) = strong_edge l
facts_of t weak (slash_weak k l) = weak_edge l (weak_facts t weak k)
facts_of t weak (section l) = section_edge l

-- The edge of the tables from `u` to `w` has the built edge `f`, if `weak` are the weak links.
abbrev pub EdgeSays : Tables → List ℕ → ℕ → ℕ → EdgeFacts → Type 0
EdgeSays t weak u w f = ∥ ((e : Edge) × IsEdge t u w e × (f ≡ facts_of t weak e)) ∥₁

-- The gate of a weak link: the node of its optional dependency in its source.
pub record IsGate (t : Tables) (k gate : ℕ) : Type 0 where
  pub within : k < length t.links
  pub node : (link : LinkTable) → IsLink t k link → NodeAt t gate link.from (optional link.name)

-- `edges` are exactly the built edges of the tables, ascending, and `weak` has the package link and the gate of each weak link.
pub record AreBuilt (t : Tables) (edges : List (ℕ × ℕ × EdgeFacts)) (weak : List (ℕ × ℕ)) : Type 0 where
  pub ascends : AllPairs EdgeBefore edges
  pub exact : (u w : ℕ) (f : EdgeFacts) → Contains edges (u, w, f) ↔ EdgeSays t (map (λ x. x.0) weak) u w f
  pub links : map (λ x. x.0) weak ≡ weak_links edges
  pub gates : (i k gate : ℕ) → slice_get weak i ≡ Some (k, gate) → IsGate t k gate

-- The two nodes of each edge.
abbrev pub ends_of : List (ℕ × ℕ × EdgeFacts) → List (ℕ × ℕ)
ends_of edges = map (λ e. (e.0, e.1)) edges
