-- The cycles that an iterator hasn't returned yet.
use Rattle.std.specs.Prelude.{◌≡◌, ◌<◌, ◌≤◌, ℕ, List, All, length, map}
use Rattle.digraph_orders.specs.Sequences.{Sequence, IsSequence}
use Rattle.guppy_support.specs.Cycles.{nodes_of}
use Rattle.guppy_packages.specs.Rows.{Text}
use Rattle.guppy_packages.specs.Tables.{Tables}
use Rattle.feature_core.specs.Nodes.{nodes}
use Rattle.feature_labels.specs.Names.{LabelName}
use Rattle.feature_graph.specs.Names.{names_of_nodes}

-- the names of the features of these components
abbrev pub cycles_left : Tables → Sequence → List ℕ → List (List (Text × LabelName))
cycles_left t o components = map (λ c. names_of_nodes t (nodes_of o c)) components

-- the order lists the nodes, the components are components of the order, and `passed` is within their list
pub record AreCycles (t : Tables) (o : Sequence) (passed : ℕ) (components : List ℕ) : Type 0 where
  pub order : IsSequence o
  pub long : length o.list ≡ length (nodes t)
  pub within : All (λ c. c < o.count) components
  pub bounded : passed ≤ length components
