use Rattle.std.proofs.Common.{◌∙◌}
use Rattle.feature_graph.proofs.graph.FeatureGraph.build_warnings.Goals as goal

pub returns : goal.returns
returns c = c.warnings.ensures ∙ c.args.self.now.is_built.warnings
