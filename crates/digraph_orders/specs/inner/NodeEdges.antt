-- The other end of each edge of a node.
use Rattle.std.specs.Prelude.{ℕ, List, slice_index}
use Rattle.digraphs.specs.declared.digraph.Edge.{Edge}
use Rattle.digraphs.specs.Graph.{sources, targets, source_of, target_of}
use Rattle.digraphs.specs.Rows.{places}

-- The target of the `k`-th edge that leaves `v`.
abbrev pub target_at : List Edge → ℕ → ℕ → ℕ
target_at es v k = target_of es (slice_index (places v (sources es)) k)

-- The source of the `k`-th edge that enters `v`.
abbrev pub source_at : List Edge → ℕ → ℕ → ℕ
source_at es v k = source_of es (slice_index (places v (targets es)) k)
