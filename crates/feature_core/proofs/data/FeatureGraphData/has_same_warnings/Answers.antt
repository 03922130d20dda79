use Rattle.feature_core.proofs.SameData.{alike_at}
use Rattle.feature_core.proofs.data.FeatureGraphData.has_same_warnings.Goals as goal

pub returns : goal.returns
returns c = alike_at _ _ _ _ _ c.warnings-own.ensures c.warnings-others.ensures c.same_warnings.ensures
