use Rattle.std.proofs.Common.{map, take}
use Rattle.cargo_plans.specs.plan_steps.PlanViews.{plan_text}
use Rattle.plan_whys.specs.Reasons.{AreReasoned}
use Rattle.plan_whys.specs.StepViews.{reasoned_text, why_text}
use Rattle.plan_whys.proofs.step_reasons.reasoned_steps.Given as goal

abbrev pub invariant-loop-step : goal.invariant-loop-step
invariant-loop-step l = AreReasoned (plan_text l.plan).on (map why_text (take l.step-index l.steps)) (map reasoned_text l.reasoned.items)
