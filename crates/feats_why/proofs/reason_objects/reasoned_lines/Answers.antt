use Rattle.std.proofs.Common.{map}
use Rattle.cargo_workspaces.specs.Views.{package_text}
use Rattle.feats_why.specs.ReasonedObjects.{reasoned_line, reasoned_objects}
use Rattle.feats_why.specs.Settings.{settings_text}
use Rattle.plan_whys.specs.StepViews.{reasoned_text}
use Rattle.feats_why.proofs.Loops.{flat_next}
use Rattle.feats_why.proofs.reason_objects.reasoned_lines.Goals as goal

pub loop-step-preserved : goal.loop-step-preserved
loop-step-preserved g c =
    let packages = map package_text c.args.packages.now in
    let settings = settings_text g.P.Platform.holds c.args.settings.now in
    flat_next (reasoned_line packages settings) reasoned_text c.args.steps.now c.loop-step.step-index c.step-item.result
    (reasoned_objects packages settings (map reasoned_text c.args.steps.now)) c.loop-step.text.items c.in_ok-text.text.items
    c.loop-step-test.true c.step-item.is c.loop-step.invariant c.in_ok-text.ensures
