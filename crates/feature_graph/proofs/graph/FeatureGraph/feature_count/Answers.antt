use Rattle.std.proofs.Common.{◌∙◌}
use Rattle.feature_graph.proofs.BuiltLemmas.{built_count}
use Rattle.feature_graph.proofs.graph.FeatureGraph.feature_count.Goals as goal

pub returns : goal.returns
returns c = c.node_count.ensures ∙ built_count c.args.self.now.graph.now c.args.self.now.built.now c.args.self.now.is_built
