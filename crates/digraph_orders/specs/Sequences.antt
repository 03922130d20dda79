-- The value of an order: the list of nodes, the component of each node, and the number of components.
use Rattle.std.specs.Prelude.{◌≡◌, ℕ, ◌<◌, ◌≤◌, List, length, slice_index}
use Rattle.digraphs.specs.Paths.{SameComponent}
use Rattle.digraphs.specs.Graph.{Graph}
use Rattle.digraph_orders.specs.Orders.{IsOrder, ListsEach}

pub record Sequence : Type 0 where
  pub list : List ℕ
  pub component : List ℕ
  pub count : ℕ

abbrev pub component_of : Sequence → ℕ → ℕ
component_of o v = slice_index o.component v

-- The order of a digraph and its components, which are numbered by their first place in the order.
pub record IsOrderOf (g : Graph) (o : Sequence) : Type 0 where
  pub order : IsOrder g.edges g.nodes o.list
  pub long : length o.component ≡ g.nodes
  pub apart : (a b : ℕ) → a < g.nodes → b < g.nodes → component_of o a ≡ component_of o b → SameComponent g.edges a b
  pub same : (a b : ℕ) → a < g.nodes → SameComponent g.edges a b → component_of o a ≡ component_of o b
  pub rising : (i j : ℕ) → i < j → j < g.nodes → component_of o (slice_index o.list i) ≤ component_of o (slice_index o.list j)
  pub below : (v : ℕ) → v < g.nodes → component_of o v < o.count
  pub each : (c : ℕ) → c < o.count → (v : ℕ) × (v < g.nodes) × (component_of o v ≡ c)

-- The invariant of an order's value: it lists each node once, and assigns each a component.
pub record IsSequence (o : Sequence) : Type 0 where
  pub each : ListsEach (length o.list) o.list
  pub long : length o.component ≡ length o.list
  pub below : (v : ℕ) → v < length o.list → component_of o v < o.count
