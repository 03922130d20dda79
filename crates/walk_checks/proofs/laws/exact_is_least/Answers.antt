use Rattle.walk_checks.proofs.Exactness.{exact_least}
use Rattle.walk_checks.proofs.laws.exact_is_least.Goals as goal

pub returns : goal.returns
returns c = exact_least
