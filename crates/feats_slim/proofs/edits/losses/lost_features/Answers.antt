use Rattle.std.proofs.Common.{◌∙◌, ◌++◌, ℕ, List, ap, map}
use Rattle.cargo_workspaces.specs.Views.{feature_text, package_text}
use Rattle.cargo_workspaces.specs.Workspaces.{PackageText}
use Rattle.cargo_workspaces.specs.declared.package.Feature.{Feature}
use Rattle.feats_slim.specs.edits.Losses.{lost_among}
use Rattle.feats_slim.specs.edits.LossViews.{lost_feature_text}
use Rattle.feats_slim.proofs.Lists.{joined_more}
use Rattle.feats_slim.proofs.edits.losses.lost_features.Goals as goal

pub loop-ix-preserved : goal.loop-ix-preserved
loop-ix-preserved c = λ b a has_before has_after.
    let ix = c.loop-ix.ix in
    joined_more package_text (λ (p : ℕ) (x : PackageText). lost_among b a p x.features) c.args.packages.now ix c.index-packages-ix.result _ _ _
    c.loop-ix-test.true c.index-packages-ix.is (c.loop-ix.invariant b a has_before has_after)
    (c.in_ok-push_features.ensures b a has_before has_after
    ∙ ap (λ (fs : List Feature). map lost_feature_text c.loop-ix.lost.items ++ lost_among b a ix (map feature_text fs)) c.deref.ensures.value)
