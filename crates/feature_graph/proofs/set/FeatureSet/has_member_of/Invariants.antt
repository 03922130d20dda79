use Rattle.std.proofs.Common.{◌≡◌, ◌<◌, ◌≤◌, ℕ, false}
use Rattle.digraphs.specs.Bits.{has}
use Rattle.feature_core.specs.Nodes.{first_node}
use Rattle.feature_graph.specs.Views.{tables_of_graph}
use Rattle.feature_graph.proofs.set.FeatureSet.has_member_of.Given as goal

abbrev pub invariant-nodes : goal.invariant-nodes
invariant-nodes l = (k : ℕ) → first_node (tables_of_graph l.self-inside.graph) l.package_ix ≤ k → k < l.node → has l.self-inside.members k ≡ false
