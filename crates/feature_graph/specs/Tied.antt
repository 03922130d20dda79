-- Relations between two features of a graph, and the cycles of the graph.
use Rattle.std.specs.Prelude.{◌≡◌, ◌↔◌, ℕ, Bool, List, [], ◌∷◌, IsTrue, map}
use Rattle.digraph_orders.specs.Sequences.{Sequence}
use Rattle.guppy_support.specs.Cycles.{cyclic_components, nodes_of}
use Rattle.guppy_packages.specs.Rows.{Text}
use Rattle.guppy_packages.specs.Tables.{Tables}
use Rattle.feature_core.specs.Built.{NodeNamed}
use Rattle.feature_core.specs.Errors.{Refusal, unknown_package, unknown_feature, internal_error, no_memory}
use Rattle.feature_labels.specs.Names.{LabelName}
use Rattle.feature_graph.specs.Names.{HasFeature, IsFirstUnknown, names_of_nodes}
use Rattle.feature_graph.specs.Ordered.{edges_of}
use Rattle.feature_graph.specs.Values.{Graph}
use Rattle.feature_graph.specs.Views.{graph_of}
use Rattle.feature_graph.specs.declared.cycles.Cycles.{Cycles}

-- the error for two names: the first of them that the graph lacks
abbrev pub RefusesTwo : Tables → Text × LabelName → Text × LabelName → Refusal → Type 0
RefusesTwo t a b (unknown_feature name) = IsFirstUnknown t (a ∷ b ∷ []) name
RefusesTwo t a b (unknown_package id) = ⊥
RefusesTwo t a b (internal_error from to) = ⊥
RefusesTwo t a b no_memory = ⊥

-- `m` and `n` are the only nodes of the two names
pub record AreNodesOf (t : Tables) (a b : Text × LabelName) (m n : ℕ) : Type 0 where
  pub first : (k : ℕ) → NodeNamed t k a ↔ (k ≡ m)
  pub second : (k : ℕ) → NodeNamed t k b ↔ (k ≡ n)

-- the graph has both features, and `answer` is whether their nodes are related
pub record TellsTied (Tied : ℕ → ℕ → Type 0) (t : Tables) (a b : Text × LabelName) (answer : Bool) : Type 0 where
  pub first : HasFeature t a
  pub second : HasFeature t b
  pub tells : (m n : ℕ) → NodeNamed t m a → NodeNamed t n b → IsTrue answer ↔ Tied m n

-- the graph of a view of cycles
abbrev pub cycles_of : Cycles → Graph
cycles_of c = graph_of c.graph

-- the names of the components that have a cycle: the last component first, and the features of each in order
abbrev pub cycle_names : Graph → Sequence → List (List (Text × LabelName))
cycle_names g o = map (λ c. names_of_nodes g.tables (nodes_of o c)) (cyclic_components (edges_of g) o)
