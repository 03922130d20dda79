use Rattle.laws.proofs.Declarations.{plans_follow}
use Rattle.laws.proofs.plans.laws.plans_follow_declarations.Goals as goal

pub returns : goal.returns
returns c = plans_follow
