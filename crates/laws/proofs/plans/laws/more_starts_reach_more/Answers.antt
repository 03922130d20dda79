use Rattle.laws.proofs.Monotone.{more_reached, more_visited}
use Rattle.laws.proofs.plans.laws.more_starts_reach_more.Goals as goal

pub returns-clause-reach : goal.returns-clause-reach
returns-clause-reach c = more_reached c.least_monotone.ensures.grows

pub returns-clause-visit : goal.returns-clause-visit
returns-clause-visit c = more_visited c.least_monotone.ensures.grows
