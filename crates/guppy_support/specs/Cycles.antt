-- Components that have a cycle.
use Rattle.std.specs.Prelude.{◌==◌, ◌&&◌, ◌||◌, ℕ, zero, suc, Bool, List, [], ◌∷◌, filter, length, nat_lt}
use Rattle.std.specs.List.{list_any}
use Rattle.digraphs.specs.declared.digraph.Edge.{Edge}
use Rattle.digraph_orders.specs.Sequences.{Sequence, component_of}

-- The nodes of component `c`, in order.
abbrev pub nodes_of : Sequence → ℕ → List ℕ
nodes_of o c = filter (λ v. component_of o v == c) o.list

-- Whether the edge leads from `v` to itself.
abbrev pub is_loop : ℕ → Edge → Bool
is_loop v e = (e.from == v) && (e.to == v)

-- Whether some edge leads from `v` to itself.
abbrev pub has_loop : List Edge → ℕ → Bool
has_loop es v = list_any (is_loop v) es

-- Whether component `c` has a cycle: it has at least two nodes, or a node with an edge to itself.
abbrev pub has_cycle : List Edge → Sequence → ℕ → Bool
has_cycle es o c = nat_lt 1 (length (nodes_of o c)) || list_any (has_loop es) (nodes_of o c)

-- The numbers below `n`, the greatest first.
abbrev pub descending : ℕ → List ℕ
descending zero = []
descending (suc n) = n ∷ descending n

-- The components that have a cycle, the last in the order first.
abbrev pub cyclic_components : List Edge → Sequence → List ℕ
cyclic_components es o = filter (has_cycle es o) (descending o.count)
