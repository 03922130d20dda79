use Rattle.laws.proofs.Grown.{grown_tables}
use Rattle.laws.proofs.plans.laws.grown_tables_reach_more.Goals as goal

pub returns : goal.returns
returns c = grown_tables
