use Rattle.walk_engine.specs.Laws.{every}
use Rattle.walk_engine.proofs.ReachLaws.{least_within, reach_least}
use Rattle.walk_engine.proofs.laws.reverse_accept_all.Goals as goal

pub returns : goal.returns
returns c cc I free n = (least_within cc I every n, reach_least cc I free n)
