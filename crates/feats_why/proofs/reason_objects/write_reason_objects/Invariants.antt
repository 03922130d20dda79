use Rattle.std.proofs.Common.{◌≡◌, ◌++◌, drop, flat_map, map}
use Rattle.cargo_workspaces.specs.Views.{package_text}
use Rattle.feats_why.specs.ReasonedObjects.{reason_object}
use Rattle.feats_why.specs.Settings.{settings_text}
use Rattle.plan_whys.specs.StepViews.{reason_text, spot_text}
use Rattle.feats_why.proofs.reason_objects.write_reason_objects.Given as goal

abbrev pub invariant-loop-reason : goal.invariant-loop-reason
invariant-loop-reason g l =
    let objects = flat_map (reason_object (map package_text l.packages) (settings_text g.P.Platform.holds l.settings) (spot_text l.at)) in
    (l.writer.before ≡ l.initial.writer.before)
    × (l.initial.writer.tokens ++ objects (map reason_text l.reasons) ≡ l.writer.tokens ++ objects (map reason_text (drop l.reason-index l.reasons)))
