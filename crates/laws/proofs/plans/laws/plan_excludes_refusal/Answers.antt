use Rattle.laws.proofs.OneOutcome.{plan_excludes, plan_of_words_excludes}
use Rattle.laws.proofs.plans.laws.plan_excludes_refusal.Goals as goal

pub returns-clause-settings : goal.returns-clause-settings
returns-clause-settings c = plan_excludes c.one_visit.ensures

pub returns-clause-words : goal.returns-clause-words
returns-clause-words c = plan_of_words_excludes c.one_visit.ensures
