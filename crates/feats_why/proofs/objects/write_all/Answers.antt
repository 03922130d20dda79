use Rattle.std.proofs.Common.{◌∙◌, ◌++◌, map}
use Rattle.cargo_workspaces.specs.Views.{package_text}
use Rattle.feats_why.specs.Objects.{shown_object, step_objects}
use Rattle.feats_why.specs.Settings.{settings_text}
use Rattle.plan_whys.specs.StepViews.{why_text}
use Rattle.feats_why.proofs.Loops.{flat_more}
use Rattle.feats_why.proofs.objects.write_all.Goals as goal

pub loop-step-preserved : goal.loop-step-preserved
loop-step-preserved g c =
    let packages = map package_text c.args.packages.now in
    let settings = settings_text g.P.Platform.holds c.args.settings.now in (
      c.in_ok-write_shown.ensures.before ∙ c.loop-step.invariant.0,
      flat_more (shown_object packages settings) why_text c.args.steps.now c.loop-step.step-index _
          (c.args.writer.now.tokens ++ step_objects packages settings (map why_text c.args.steps.now)) c.loop-step.writer.tokens c.write_shown.new.writer.tokens
          c.loop-step-test.true c.loop-step.invariant.1 c.in_ok-write_shown.ensures.tokens,
    )
