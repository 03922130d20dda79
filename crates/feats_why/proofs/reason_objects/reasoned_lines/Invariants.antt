use Rattle.std.proofs.Common.{◌≡◌, ◌++◌, map, drop}
use Rattle.cargo_workspaces.specs.Views.{package_text}
use Rattle.feats_why.specs.ReasonedObjects.{reasoned_objects}
use Rattle.feats_why.specs.Settings.{settings_text}
use Rattle.plan_whys.specs.StepViews.{reasoned_text}
use Rattle.feats_why.proofs.reason_objects.reasoned_lines.Given as goal

abbrev pub invariant-loop-step : goal.invariant-loop-step
invariant-loop-step g l =
    let objects = reasoned_objects (map package_text l.packages) (settings_text g.P.Platform.holds l.settings) in
    objects (map reasoned_text l.steps) ≡ l.text.items ++ objects (map reasoned_text (drop l.step-index l.steps))
