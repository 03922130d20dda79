use Rattle.std.proofs.Common.{◌∙◌}
use Rattle.feature_core.proofs.Determined.{same_as_built}
use Rattle.feature_core.proofs.data.FeatureGraphData.is_built_from.Goals as goal

pub returns-clause-answer : goal.returns-clause-answer
returns-clause-answer c =
    same_as_built c.args.graph.now c.facts.ensures c.in_ok-made.made c.args.self.now c.is_same.result
    c.in_ok-made.ensures.built (c.in_ok-made.ensures.stamp ∙ c.stamp.ensures) c.is_same.ensures
