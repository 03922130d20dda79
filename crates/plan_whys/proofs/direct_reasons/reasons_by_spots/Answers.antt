use Rattle.std.proofs.Common.{arith, map}
use Rattle.plan_whys.specs.Steps.{IsReasonOf}
use Rattle.plan_whys.specs.StepViews.{reason_text}
use Rattle.plan_whys.proofs.StepLists.{map_pushed, zip_next}
use Rattle.plan_whys.proofs.direct_reasons.reasons_by_spots.Goals as goal

pub loop-reason-preserved : goal.loop-reason-preserved
loop-reason-preserved c =
    zip_next (IsReasonOf c.args.on.now c.args.table.now.holds) c.args.reasons.now (map reason_text c.loop-reason.shown.items) (map reason_text c.push.new.self.items) c.loop-reason.reason-index _ (reason_text c.reason_of.result)
    (omega (arith, c.loop-reason-test.true)) c.loop-reason.invariant c.reason_of.ensures
    (map_pushed reason_text c.loop-reason.shown.items c.push.new.self.items c.reason_of.result c.in_ok-push.ensures.items)
