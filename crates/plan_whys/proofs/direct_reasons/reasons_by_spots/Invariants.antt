use Rattle.std.proofs.Common.{map, take}
use Rattle.std.specs.List.{AllZip}
use Rattle.plan_whys.specs.Steps.{IsReasonOf}
use Rattle.plan_whys.specs.StepViews.{reason_text}
use Rattle.plan_whys.proofs.direct_reasons.reasons_by_spots.Given as goal

abbrev pub invariant-loop-reason : goal.invariant-loop-reason
invariant-loop-reason l = AllZip (IsReasonOf l.on l.table.holds) (take l.reason-index l.reasons) (map reason_text l.shown.items)
