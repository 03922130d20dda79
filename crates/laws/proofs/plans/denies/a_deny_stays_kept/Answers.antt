use Rattle.laws.proofs.DenyLemmas.{stays_kept, stays_kept_on}
use Rattle.laws.proofs.plans.denies.a_deny_stays_kept.Goals as goal

pub returns-clause-everywhere : goal.returns-clause-everywhere
returns-clause-everywhere c = stays_kept

pub returns-clause-on_platform : goal.returns-clause-on_platform
returns-clause-on_platform c = λ d b word triple same more. stays_kept_on d b same more word triple
