use Rattle.feature_core.specs.Nodes.{nodes}
use Rattle.feature_graph.specs.Views.{tables_of_graph}
use Rattle.feature_graph.proofs.SameFeatures.{SameBelow}
use Rattle.feature_graph.proofs.graph.FeatureGraph.has_same_features.Given as goal

abbrev pub invariant-nodes : goal.invariant-nodes
invariant-nodes l = SameBelow (nodes (tables_of_graph l.self)) (nodes (tables_of_graph l.other)) l.node
