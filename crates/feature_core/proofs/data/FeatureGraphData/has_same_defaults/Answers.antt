use Rattle.std.proofs.Common.{ap}
use Rattle.feature_core.proofs.SameData.{alike_at}
use Rattle.feature_core.proofs.data.FeatureGraphData.has_same_defaults.Goals as goal

pub returns : goal.returns
returns c = alike_at _ _ _ _ _ (ap (λ b. b.defaults) c.self.view_is) (ap (λ b. b.defaults) c.other.view_is) c.is_identical.ensures
