use Rattle.walk_engine.proofs.ReachLaws.{leads_reach, reach_leads, leads_reverse, reverse_leads}
use Rattle.walk_engine.proofs.laws.reach_both_ways.Goals as goal

pub returns-clause-forward : goal.returns-clause-forward
returns-clause-forward c cc a b = (leads_reach cc a b, reach_leads cc a b)

pub returns-clause-reverse : goal.returns-clause-reverse
returns-clause-reverse c cc d r a b = (leads_reverse cc d r a b, reverse_leads cc d r a b)
