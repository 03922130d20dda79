use Rattle.std.proofs.Common.{◌+◌, arith, map, subst, sym, take}
use Rattle.std.specs.List.{AllZip}
use Rattle.feature_core.specs.Ways.{Reading}
use Rattle.plan_whys.specs.Steps.{IsStepOf}
use Rattle.plan_whys.specs.StepViews.{why_text}
use Rattle.plan_whys.proofs.StepLists.{map_pushed, zip_next}
use Rattle.plan_whys.proofs.spots.steps_of.Goals as goal

pub loop-step-preserved : goal.loop-step-preserved
loop-step-preserved c =
    let on = c.args.on.now in
    let steps = c.args.steps.now in
    let ix = c.loop-step.step-index in
    let old = map why_text c.loop-step.whys.items in
    let next = map why_text c.push.new.self.items in
    let before = subst (λ (r : Reading). AllZip (IsStepOf on r.holds) (take ix steps) old) (sym c.new-table.ensures) c.loop-step.invariant in
    let after =
    zip_next (IsStepOf on c.new-table.result.holds) steps old next ix _ (why_text c.step_of.result) (omega (arith, c.loop-step-test.true)) before c.step_of.ensures
    (map_pushed why_text c.loop-step.whys.items c.push.new.self.items c.step_of.result c.in_ok-push.ensures.items)
    in
    subst (λ (r : Reading). AllZip (IsStepOf on r.holds) (take (ix + 1) steps) next) c.new-table.ensures after
