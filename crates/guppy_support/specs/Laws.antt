-- Laws of every view.
use Rattle.std.specs.Prelude.{◌≡◌, ◌≢◌, ◌↔◌, ◌<◌, ℕ, Bool, List, Contains, IsTrue, All, length, slice_index}
use Rattle.digraphs.specs.declared.digraph.Edge.{Edge}
use Rattle.digraphs.specs.Graph.{Graph, IsDigraph, source_of, target_of}
use Rattle.digraphs.specs.Paths.{OnCycle}
use Rattle.digraphs.specs.Bits.{has}
use Rattle.digraph_orders.specs.Sequences.{Sequence, IsSequence, IsOrderOf, component_of}
use Rattle.guppy_support.specs.declared.reading.Reading.{Reading}
use Rattle.guppy_support.specs.Views.{in_order, links_in_order, roots_in_order, start_of, end_of}
use Rattle.guppy_support.specs.Cycles.{has_cycle, cyclic_components}

-- The list has exactly the numbers of a kind, each once.
pub record ListsOnce (Is : ℕ → Type 0) (xs : List ℕ) : Type 0 where
  pub exactly : (x : ℕ) → Contains xs x ↔ Is x
  pub apart : (i j : ℕ) → i < j → j < length xs → slice_index xs i ≢ slice_index xs j

-- The members in order are exactly the members, each once.
abbrev pub MembersComeOnce : Type 0
MembersComeOnce =
    (o : Sequence) (set : List Bool) (r : Reading) → IsSequence o → length set ≡ length o.list
    → ListsOnce (λ v. IsTrue (has set v)) (in_order r o.list set)

-- Edge `k` leads from a member to a member.
pub record IsLink (es : List Edge) (set : List Bool) (k : ℕ) : Type 0 where
  pub within : k < length es
  pub from : IsTrue (has set (source_of es k))
  pub to : IsTrue (has set (target_of es k))

-- The links in order are exactly the edges with both ends in the set, each once.
abbrev pub LinksComeOnce : Type 0
LinksComeOnce =
    (es : List Edge) (o : Sequence) (set : List Bool) (r : Reading) → IsSequence o → length set ≡ length o.list
    → ListsOnce (IsLink es set) (links_in_order r es o.list set)

-- Of two of the links that have one start, the one that ends at the smaller number comes first.
pub record AscendByEnd (r : Reading) (es : List Edge) (xs : List ℕ) : Type 0 where
  pub each : (i j : ℕ) → i < j → j < length xs → start_of r es (slice_index xs i) ≡ start_of r es (slice_index xs j)
      → end_of r es (slice_index xs i) < end_of r es (slice_index xs j)

-- The links in order that have one start ascend by the number of their other end.
abbrev pub LinksAscend : Type 0
LinksAscend =
    (g : Graph) (o : Sequence) (set : List Bool) (r : Reading) → IsDigraph g → IsSequence o
    → AscendByEnd r g.edges (links_in_order r g.edges o.list set)

-- Each member, link, root and component in a view is a number of its kind.
abbrev pub MembersAreNodes : Type 0
MembersAreNodes = (r : Reading) (list : List ℕ) (set : List Bool) → All (λ v. v < length set) (in_order r list set)

abbrev pub LinksAreEdges : Type 0
LinksAreEdges = (r : Reading) (es : List Edge) (list : List ℕ) (set : List Bool) → All (λ k. k < length es) (links_in_order r es list set)

abbrev pub RootsAreNodes : Type 0
RootsAreNodes = (r : Reading) (es : List Edge) (o : Sequence) (set : List Bool) → All (λ v. v < length set) (roots_in_order r es o set)

abbrev pub CyclesAreNumbered : Type 0
CyclesAreNumbered = (es : List Edge) (o : Sequence) → All (λ c. c < o.count) (cyclic_components es o)

-- Two orders of one digraph have the same list.
abbrev pub OneList : Type 0
OneList = (g : Graph) (o p : Sequence) → IsOrderOf g o → IsOrderOf g p → o.list ≡ p.list

-- A node's component has a cycle exactly if a path of at least one edge leads from the node to itself.
abbrev pub CyclicByCycles : Type 0
CyclicByCycles =
    (g : Graph) (o : Sequence) (v : ℕ) → IsDigraph g → IsOrderOf g o → v < g.nodes
    → IsTrue (has_cycle g.edges o (component_of o v)) ↔ OnCycle g.edges v v
