-- The edges of a feature graph as ways in a direction.
use Rattle.std.specs.Prelude.{ℕ, ◌<◌, List, Bool, true, false, Option, Some, None, map, slice_get, All}
use Rattle.std.specs.Option.{option_map_or, is_some}
use Rattle.feature_edges.specs.guppy_packages.declared.direction.DependencyDirection.{DependencyDirection}
use Rattle.feature_edges.specs.guppy_packages.declared.direction.DependencyDirection.TheVariants.{Forward, Reverse}
use Rattle.walk_engine.specs.declared.walks.Ask.{Ask}
use Rattle.walk_engine.specs.declared.walks.Ask.TheVariants.{Nobody, Full, Weak}
use Rattle.feature_edges.specs.feature_links.Facts.{EdgeFacts}
use Rattle.feature_edges.specs.feature_links.Facts.EdgeFacts.{base_edge, feature_edge, colon_edge, strong_edge, weak_edge, section_edge}
use Rattle.walk_engine.specs.Walks.{Way, Content}

-- An optional half waits for its gate forward, and not in reverse.
abbrev pub waits : DependencyDirection → Bool
waits Forward = true
waits Reverse = false

-- The offers of an edge.
abbrev pub asked : DependencyDirection → EdgeFacts → Ask
asked direction base_edge = Nobody
asked direction feature_edge = Nobody
asked direction (colon_edge l) = Full
asked direction (strong_edge l) = Full
asked direction (weak_edge l half) = Weak (is_some half.required) (waits direction)
asked direction (section_edge l) = Full

-- The gate of weak link `index`; `weak` has each weak link with its gate.
abbrev pub gate_at : List (ℕ × ℕ) → ℕ → ℕ
gate_at weak index = option_map_or (λ x. x.1) (slice_get weak index) 0

-- The gate of a weak edge's optional half.
abbrev pub gate_of : List (ℕ × ℕ) → EdgeFacts → Option ℕ
gate_of weak base_edge = None
gate_of weak feature_edge = None
gate_of weak (colon_edge l) = None
gate_of weak (strong_edge l) = None
gate_of weak (weak_edge l half) = Some (gate_at weak half.index)
gate_of weak (section_edge l) = None

-- The end that an edge starts from in a direction, and the end that it leads to.
abbrev pub start_of : DependencyDirection → ℕ × ℕ × EdgeFacts → ℕ
start_of Forward e = e.0
start_of Reverse e = e.1

abbrev pub far_of : DependencyDirection → ℕ × ℕ × EdgeFacts → ℕ
far_of Forward e = e.1
far_of Reverse e = e.0

-- An edge as a way.
abbrev pub way : DependencyDirection → List (ℕ × ℕ) → ℕ × ℕ × EdgeFacts → Way
way direction weak e = record {
  start = start_of direction e;
  far = far_of direction e;
  ask = asked direction e.2;
  gate = option_map_or (λ gate. gate) (gate_of weak e.2) 0;
}

abbrev pub ways : DependencyDirection → List (ℕ × ℕ × EdgeFacts) → List (ℕ × ℕ) → List Way
ways direction edges weak = map (way direction weak) edges

-- The nodes and ways that a walk in the direction follows.
abbrev pub content : DependencyDirection → ℕ → List (ℕ × ℕ × EdgeFacts) → List (ℕ × ℕ) → Content
content direction nodes edges weak = record { nodes = nodes; ways = ways direction edges weak }

-- Every gate is a node.
abbrev pub GatesAreNodes : ℕ → List (ℕ × ℕ) → Type 0
GatesAreNodes nodes weak = All (λ x. x.1 < nodes) weak

-- The content of a source of edges, and the number of reads.
pub record Reading : Type 0 where
  pub holds : Content
  pub reads : ℕ
