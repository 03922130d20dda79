use Rattle.laws.proofs.OnePlan.{one_plan, one_plan_of_words}
use Rattle.laws.proofs.plans.laws.one_plan.Goals as goal

pub returns-clause-settings : goal.returns-clause-settings
returns-clause-settings c = one_plan c.one_visit.ensures

pub returns-clause-words : goal.returns-clause-words
returns-clause-words c = one_plan_of_words c.one_visit.ensures
