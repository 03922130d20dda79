use Rattle.std.specs.Prelude.{Ok, Err}
use Rattle.std.proofs.lemmas.Result.{IfOk-weaker}
use Rattle.cargo_plans.specs.plan_steps.PlanViews.{plan_text}
use Rattle.feats_why_not.proofs.small_words.is_built_by.Goals as goal

pub returns-in-Ok : goal.returns-in-Ok
returns-in-Ok c = IfOk-weaker c.is_built_in-is.result _ _ (λ is same. record { outcome = Ok (plan_text c.in-Ok.plan); has_outcome = c.in-Ok.ensures.plan; is_built = same }) c.is_built_in-is.ensures

pub returns-in-Err : goal.returns-in-Err
returns-in-Err c = IfOk-weaker c.without_plan.result _ _ (λ is no. record { outcome = Err c.in-Err.fault; has_outcome = (c.in-Err.ensures.fault, no.1); is_built = no.0 }) c.without_plan.ensures
