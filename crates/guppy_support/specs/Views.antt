-- Views of a set of nodes in an order: the members, the edges between them, the roots. The set is a test for
-- each node.
use Rattle.std.specs.Prelude.{◌==◌, ◌&&◌, ℕ, Bool, List, not, filter, reverse, flat_map}
use Rattle.std.specs.List.{list_any}
use Rattle.digraphs.specs.declared.digraph.Edge.{Edge}
use Rattle.digraphs.specs.Graph.{sources, targets, source_of, target_of}
use Rattle.digraphs.specs.Rows.{places}
use Rattle.digraphs.specs.Bits.{has}
use Rattle.digraph_orders.specs.Sequences.{Sequence, component_of}
use Rattle.guppy_support.specs.declared.reading.Reading.{Reading}
use Rattle.guppy_support.specs.declared.reading.Reading.TheVariants.{Forward, Backward}

-- The members in the order of the list, or in its reverse.
abbrev pub in_order : Reading → List ℕ → List Bool → List ℕ
in_order Forward list set = filter (λ v. has set v) list
in_order Backward list set = reverse (filter (λ v. has set v) list)

-- The nodes at which edge `k` starts and ends. Read forward, it starts at its source; backward, at its target.
abbrev pub start_of : Reading → List Edge → ℕ → ℕ
start_of Forward es k = source_of es k
start_of Backward es k = target_of es k

abbrev pub end_of : Reading → List Edge → ℕ → ℕ
end_of Forward es k = target_of es k
end_of Backward es k = source_of es k

-- The numbers of the edges that start at `v`, ascending.
abbrev pub starting : Reading → List Edge → ℕ → List ℕ
starting Forward es v = places v (sources es)
starting Backward es v = places v (targets es)

-- The numbers of the edges that start at `v` and end at a member.
abbrev pub links_of : Reading → List Edge → List Bool → ℕ → List ℕ
links_of r es set v = filter (λ k. has set (end_of r es k)) (starting r es v)

-- The numbers of the edges with both ends in the set, grouped by start, in the order of the members.
abbrev pub links_in_order : Reading → List Edge → List ℕ → List Bool → List ℕ
links_in_order r es list set = flat_map (links_of r es set) (in_order r list set)

-- Whether edge `k` starts in component `c` and ends in another.
abbrev pub leaves : Reading → List Edge → Sequence → ℕ → ℕ → Bool
leaves r es o c k = (component_of o (start_of r es k) == c) && not (component_of o (end_of r es k) == c)

-- Whether no edge between members leaves the component of `v`.
abbrev pub is_root : Reading → List Edge → Sequence → List Bool → ℕ → Bool
is_root r es o set v = not (list_any (leaves r es o (component_of o v)) (links_in_order r es o.list set))

abbrev pub roots_in_order : Reading → List Edge → Sequence → List Bool → List ℕ
roots_in_order r es o set = filter (is_root r es o set) (in_order r o.list set)
