-- The remaining items of iterators.
use Rattle.std.specs.Prelude.{ℕ, Bool, List, [], ◌++◌, Option, Some, None, filter, drop, reverse, flat_map}
use Rattle.digraphs.specs.declared.digraph.Edge.{Edge}
use Rattle.digraphs.specs.Bits.{has}
use Rattle.digraph_orders.specs.Sequences.{Sequence}
use Rattle.guppy_support.specs.declared.reading.Reading.{Reading}
use Rattle.guppy_support.specs.declared.reading.Reading.TheVariants.{Forward, Backward}
use Rattle.guppy_support.specs.Views.{starting, end_of, links_of}
use Rattle.guppy_support.specs.Cycles.{has_cycle, descending}

abbrev pub as_read : Reading → List ℕ → List ℕ
as_read Forward list = list
as_read Backward list = reverse list

-- The members after the first `passed` nodes, in the direction of the reading.
abbrev pub members_left : Reading → List ℕ → List Bool → ℕ → List ℕ
members_left r list set passed = filter (λ v. has set v) (drop passed (as_read r list))

-- The edges of `v` to members, after the first `passed` edges that start at `v`.
abbrev pub links_after : Reading → List Edge → List Bool → ℕ → ℕ → List ℕ
links_after r es set v passed = filter (λ k. has set (end_of r es k)) (drop passed (starting r es v))

-- The remaining edges of the current node, then those of the nodes after it. Without a current node there are
-- none.
abbrev pub links_left : Reading → List Edge → List Bool → Option ℕ → ℕ → List ℕ → List ℕ
links_left r es set None passed nodes = []
links_left r es set (Some v) passed nodes = links_after r es set v passed ++ flat_map (links_of r es set) nodes

-- The components below `n` that have a cycle, the last first.
abbrev pub cyclic_below : List Edge → Sequence → ℕ → List ℕ
cyclic_below es o n = filter (has_cycle es o) (descending n)
