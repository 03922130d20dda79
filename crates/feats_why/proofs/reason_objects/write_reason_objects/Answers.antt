use Rattle.std.proofs.Common.{◌∙◌, ◌++◌, flat_map, map}
use Rattle.cargo_workspaces.specs.Views.{package_text}
use Rattle.feats_why.specs.ReasonedObjects.{reason_object}
use Rattle.feats_why.specs.Settings.{settings_text}
use Rattle.plan_whys.specs.StepViews.{reason_text, spot_text}
use Rattle.feats_why.proofs.Loops.{flat_more}
use Rattle.feats_why.proofs.reason_objects.write_reason_objects.Goals as goal

pub loop-reason-preserved : goal.loop-reason-preserved
loop-reason-preserved g c =
    let object = reason_object (map package_text c.args.packages.now) (settings_text g.P.Platform.holds c.args.settings.now) (spot_text c.args.at) in (
      c.in_ok-write_reason_object.ensures.before ∙ c.loop-reason.invariant.0,
      flat_more object reason_text c.args.reasons.now c.loop-reason.reason-index _
          (c.args.writer.now.tokens ++ flat_map object (map reason_text c.args.reasons.now)) c.loop-reason.writer.tokens c.write_reason_object.new.writer.tokens
          c.loop-reason-test.true c.loop-reason.invariant.1 c.in_ok-write_reason_object.ensures.tokens,
    )
