use Rattle.std.proofs.Common.{◌∙◌, ap, not}
use Rattle.cargo_workspaces.specs.Views.{feature_text}
use Rattle.feats_plans.specs.numbered_workspaces.Faults.{bad_name}
use Rattle.feats_plans.proofs.Steps.{first_later}
use Rattle.feats_plans.proofs.Sound.{may_be}
use Rattle.feats_plans.proofs.numbered_workspaces.rules.bad_name.Goals as goal

pub loop-feature-preserved : goal.loop-feature-preserved
loop-feature-preserved c =
    first_later feature_text c.args.features.now c.loop-feature.feature-index c.feature-item.result c.loop-feature-test.true c.feature-item.is bad_name _ c.loop-feature.invariant (may_be (feature_text c.feature-item.result) (c.begins_with_bracket.ensures ∙ ap not c.if-begins_with_bracket.false))
