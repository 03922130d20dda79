-- Edges by number. Equal edges may share storage.
use Rattle.std.specs.Prelude.{◌≡◌, ℕ, ◌<◌, ◌≤◌, List, All, Option, None, Some, length, map, slice_get, slice_index_or}
use Rattle.feature_links.specs.declared.edge.FeatureEdge.{FeatureEdge}
use Rattle.feature_links.specs.Facts.{EdgeFacts, base_edge, feature_edge, colon_edge, strong_edge, weak_edge, section_edge}
use Rattle.feature_links.specs.Values.{edge_facts}

-- The values of the edges at these indices.
abbrev pub facts_at : List FeatureEdge → List ℕ → List EdgeFacts
facts_at pool places = map (λ p. slice_index_or (map edge_facts pool) p base_edge) places

-- Each index is within the pool.
abbrev pub AreWithin : List FeatureEdge → List ℕ → Type 0
AreWithin pool places = All (λ p. p < length pool) places

-- The value of each edge of the old pool is unchanged.
abbrev pub Keeps : List FeatureEdge → List FeatureEdge → Type 0
Keeps old new = (p : ℕ) (f : EdgeFacts) → slice_get (map edge_facts old) p ≡ Some f → slice_get (map edge_facts new) p ≡ Some f

-- The index of an unconditional edge, which is the same in each pool.
abbrev pub fixed_place : EdgeFacts → Option ℕ
fixed_place base_edge = Some 0
fixed_place feature_edge = Some 1
fixed_place (colon_edge l) = None
fixed_place (strong_edge l) = None
fixed_place (weak_edge l halves) = None
fixed_place (section_edge l) = None

-- The unconditional edges have their fixed indices, and all later edges are conditional.
pub record IsParted (pool : List FeatureEdge) : Type 0 where
  pub to_base : slice_get (map edge_facts pool) 0 ≡ Some base_edge
  pub to_named : slice_get (map edge_facts pool) 1 ≡ Some feature_edge
  pub conditional : (p : ℕ) (f : EdgeFacts) → 2 ≤ p → slice_get (map edge_facts pool) p ≡ Some f → fixed_place f ≡ None
