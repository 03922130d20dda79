use Rattle.walk_engine.proofs.ReachLaws.{least_within, least_grows, least_again}
use Rattle.walk_engine.proofs.laws.least_monotone.Goals as goal

pub returns-clause-within : goal.returns-clause-within
returns-clause-within c = least_within

pub returns-clause-grows : goal.returns-clause-grows
returns-clause-grows c = least_grows

pub returns-clause-again : goal.returns-clause-again
returns-clause-again c = least_again
