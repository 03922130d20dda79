use Rattle.laws.proofs.Resolvers.{resolvers_agree}
use Rattle.laws.proofs.plans.laws.resolvers_agree.Goals as goal

pub returns : goal.returns
returns c = resolvers_agree
