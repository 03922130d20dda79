-- Laws of every order of a digraph.
use Rattle.std.specs.Prelude.{◌≡◌, ◌≢◌, ◌↔◌, ℕ, ◌<◌, List, slice_index}
use Rattle.digraphs.specs.declared.digraph.Edge.{Edge}
use Rattle.digraphs.specs.Graph.{Graph, IsDigraph}
use Rattle.digraphs.specs.Paths.{HasEdge, HasFirmEdge, SameComponent, OnCycle}
use Rattle.digraph_orders.specs.Orders.{IsOrder, ListsEach}
use Rattle.digraph_orders.specs.Sequences.{Sequence, IsOrderOf}

-- A path of at least one edge, over edges that aren't dev-only.
pub data FirmPath (es : List Edge) : ℕ → ℕ → Type 0 where
  firm_edge : {a b : ℕ} → HasFirmEdge es a b → FirmPath es a b
  firm_onward : {a b c : ℕ} → HasFirmEdge es a b → FirmPath es b c → FirmPath es a c

-- The edges that aren't dev-only form no cycle, not even of one edge.
abbrev pub HasNoFirmCycle : List Edge → Type 0
HasNoFirmCycle es = (a : ℕ) → ¬ FirmPath es a a

-- A digraph has at most one order.
abbrev pub OneOrder : Type 0
OneOrder = (g : Graph) → (xs ys : List ℕ) → IsOrder g.edges g.nodes xs → IsOrder g.edges g.nodes ys → xs ≡ ys

-- Each digraph has an order.
abbrev pub OrderExists : Type 0
OrderExists = (g : Graph) → IsDigraph g → (list : List ℕ) × IsOrder g.edges g.nodes list

-- An order lists each node once, and nothing else.
abbrev pub OrderListsEach : Type 0
OrderListsEach = (g : Graph) (list : List ℕ) → IsOrder g.edges g.nodes list → ListsEach g.nodes list

-- If an edge leads from one component to another, its source is before its target.
abbrev pub ComponentsFollowEdges : Type 0
ComponentsFollowEdges =
    (g : Graph) (list : List ℕ) → IsOrder g.edges g.nodes list → (i j : ℕ) → i < g.nodes → j < g.nodes
    → HasEdge g.edges (slice_index list i) (slice_index list j) → ¬ SameComponent g.edges (slice_index list i) (slice_index list j) → i < j

-- If the edges that aren't dev-only form no cycle, the source of each is before its target.
abbrev pub FirmEdgesFollow : Type 0
FirmEdgesFollow =
    (g : Graph) (o : Sequence) → IsDigraph g → HasNoFirmCycle g.edges → IsOrderOf g o → (i j : ℕ) → i < g.nodes → j < g.nodes
    → HasFirmEdge g.edges (slice_index o.list i) (slice_index o.list j) → i < j

-- Two different nodes are in one component exactly if they are on a common cycle.
abbrev pub CyclesAreComponents : Type 0
CyclesAreComponents = (es : List Edge) (a b : ℕ) → a ≢ b → SameComponent es a b ↔ OnCycle es a b

abbrev pub CyclesAreMutual : Type 0
CyclesAreMutual = (es : List Edge) (a b : ℕ) → OnCycle es a b → OnCycle es b a
