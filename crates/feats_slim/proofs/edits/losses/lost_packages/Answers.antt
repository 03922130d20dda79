use Rattle.std.proofs.Common.{◌∙◌, ◌++◌, ◌∷◌, [], ℕ, ap, cond}
use Rattle.cargo_workspaces.specs.Views.{package_text}
use Rattle.feats_slim.specs.edits.Losses.{is_lost}
use Rattle.feats_slim.proofs.Lists.{numbered_more}
use Rattle.feats_slim.proofs.edits.losses.lost_packages.Goals as goal

pub loop-ix-preserved : goal.loop-ix-preserved
loop-ix-preserved c = λ b a has_before has_after.
    let ix = c.loop-ix.ix in
    numbered_more package_text (λ (k : ℕ). cond (is_lost b a k) (k ∷ []) []) c.args.packages.now ix _ _ _
    c.loop-ix-test.true (c.loop-ix.invariant b a has_before has_after)
    (c.in_ok-push_package.ensures ∙ ap (λ b. c.loop-ix.lost.items ++ cond b (ix ∷ []) []) (c.is_lost.ensures b a has_before has_after))
