use Rattle.std.proofs.Common.{map}
use Rattle.cargo_workspaces.specs.Views.{package_text}
use Rattle.feats_why.specs.Objects.{object_line, why_objects}
use Rattle.feats_why.specs.Settings.{settings_text}
use Rattle.plan_whys.specs.StepViews.{why_text}
use Rattle.feats_why.proofs.Loops.{flat_more}
use Rattle.feats_why.proofs.objects.object_lines.Goals as goal

pub loop-step-preserved : goal.loop-step-preserved
loop-step-preserved g c =
    let packages = map package_text c.args.packages.now in
    let settings = settings_text g.P.Platform.holds c.args.settings.now in
    flat_more (object_line packages settings) why_text c.args.steps.now c.loop-step.step-index _
    (why_objects packages settings (map why_text c.args.steps.now)) c.loop-step.text.items c.in_ok-text.text.items
    c.loop-step-test.true c.loop-step.invariant c.in_ok-text.ensures
