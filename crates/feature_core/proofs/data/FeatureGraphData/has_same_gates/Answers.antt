use Rattle.feature_core.proofs.SameData.{alike_at}
use Rattle.feature_core.proofs.data.FeatureGraphData.has_same_gates.Goals as goal

pub returns : goal.returns
returns c = alike_at _ _ _ _ _ c.weak_links-own.ensures c.weak_links-others.ensures c.same_gates.ensures
