use Rattle.feature_graph.specs.Views.{graph_of}
use Rattle.feature_graph.proofs.WorkspaceLemmas.{AskedBelow}
use Rattle.feature_graph.proofs.graph.FeatureGraph.query_workspace.Given as goal

abbrev pub invariant-nodes : goal.invariant-nodes
invariant-nodes g l = AskedBelow g.F.FeatureFilter.accept_gives (graph_of l.self) l.fn.filter l.node l.filter l.members
