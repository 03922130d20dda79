use Rattle.walk_engine.proofs.ReachLaws.{reach_apart, reach_joined, reach_again}
use Rattle.walk_engine.proofs.laws.reach_additive.Goals as goal

pub returns-clause-together : goal.returns-clause-together
returns-clause-together c cc A I J n = (reach_apart cc A I J n, reach_joined cc A I J n)

pub returns-clause-again : goal.returns-clause-again
returns-clause-again c = reach_again
