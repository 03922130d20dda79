use Rattle.std.proofs.Common.{arith, map}
use Rattle.cargo_plans.specs.plan_steps.PlanViews.{plan_text}
use Rattle.plan_whys.specs.Reasons.{IsReasoned}
use Rattle.plan_whys.specs.StepViews.{reasoned_text, why_text}
use Rattle.plan_whys.proofs.StepLists.{map_pushed, zip_viewed}
use Rattle.plan_whys.proofs.step_reasons.reasoned_steps.Goals as goal

pub loop-step-preserved : goal.loop-step-preserved
loop-step-preserved c =
    zip_viewed (IsReasoned (plan_text c.args.plan.now).on) why_text c.args.steps.now (map reasoned_text c.loop-step.reasoned.items) (map reasoned_text c.push.new.self.items) c.loop-step.step-index _ (reasoned_text c.in_ok-reasoned_step.field-0)
    (omega (arith, c.loop-step-test.true)) c.loop-step.invariant c.in_ok-reasoned_step.ensures
    (map_pushed reasoned_text c.loop-step.reasoned.items c.push.new.self.items c.in_ok-reasoned_step.field-0 c.in_ok-push.ensures.items)
