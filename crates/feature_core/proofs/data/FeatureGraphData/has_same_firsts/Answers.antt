use Rattle.std.proofs.Common.{◌∙◌, ap}
use Rattle.feature_core.proofs.SameData.{alike_at}
use Rattle.feature_core.proofs.data.FeatureGraphData.has_same_firsts.Goals as goal

pub returns : goal.returns
returns c = alike_at _ _ _ _ _ (c.as_slice-own.ensures.value ∙ ap (λ b. b.firsts) c.self.view_is) (c.as_slice-others.ensures.value ∙ ap (λ b. b.firsts) c.other.view_is) c.same_numbers.ensures
