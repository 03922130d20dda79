use Rattle.std.proofs.Common.{◌∙◌, ◌++◌, ◌∷◌, [], ap, cond, map}
use Rattle.cargo_workspaces.specs.Views.{feature_text}
use Rattle.cargo_workspaces.specs.Workspaces.{FeatureText}
use Rattle.feats_slim.specs.edits.Losses.{is_feature_lost, lost_by}
use Rattle.feats_slim.specs.edits.LossViews.{lost_feature_text}
use Rattle.feats_slim.proofs.Lists.{mapped_more}
use Rattle.feats_slim.proofs.edits.losses.push_features.Goals as goal

pub loop-feature-preserved : goal.loop-feature-preserved
loop-feature-preserved c = λ b a has_before has_after.
    let p = c.args.«package» in
    let f = c.feature-item.result in
    mapped_more feature_text (λ (x : FeatureText). is_feature_lost b a p x.name) (lost_by p) c.args.features.now c.loop-feature.feature-index f _ _ _
    c.loop-feature-test.true c.feature-item.is (c.loop-feature.invariant b a has_before has_after)
    (c.in_ok-push_feature.ensures
    ∙ ap (λ flag. map lost_feature_text c.loop-feature.lost.items ++ cond flag (lost_by p (feature_text f) ∷ []) []) (c.is_feature_lost-flag.ensures b a has_before has_after))
