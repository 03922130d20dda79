use Rattle.std.proofs.Common.{arith, map, refl}
use Rattle.cargo_plans.specs.WordsView.{words_text}
use Rattle.cargo_workspaces.specs.WorkspaceView.{workspace_text}
use Rattle.plan_rows.specs.platforms.HeldSpecs.{holds_on}
use Rattle.plan_whys.proofs.StepLists.{map_pushed, zip_next}
use Rattle.feats_why_not.specs.inner.Lists.{IsTold, about_value, told_value}
use Rattle.feats_why_not.specs.declared.told.PartAnswer.{PartAnswer}
use Rattle.feats_why_not.proofs.small_words.told_each.Goals as goal

pub loop-about-preserved : goal.loop-about-preserved
loop-about-preserved c =
    zip_next (λ (about : PartAnswer). IsTold c.args.base.alone (workspace_text c.args.base.workspace.now) (words_text holds_on c.args.base.words.now) (words_text holds_on c.args.words.now) (about_value about))
    c.args.abouts.now (map told_value c.loop-about.tolds.items) (map told_value c.push.new.self.items) c.loop-about.about-index _ _
    (omega (arith, c.loop-about-test.true)) c.loop-about.invariant (refl, c.in_ok-typed.ensures)
    (map_pushed told_value c.loop-about.tolds.items c.push.new.self.items _ c.in_ok-push.ensures.items)
