use Rattle.plan_whys.proofs.StepLaws.{whys_backed, whys_end}
use Rattle.plan_whys.proofs.laws.whys_lead_to_spots.Goals as goal

pub returns-clause-last : goal.returns-clause-last
returns-clause-last c = whys_end

pub returns-clause-backed : goal.returns-clause-backed
returns-clause-backed c = whys_backed
