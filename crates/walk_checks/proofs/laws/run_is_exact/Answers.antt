use Rattle.walk_checks.proofs.Exactness.{exact_explained}
use Rattle.walk_checks.proofs.Runs.{walk_exact}
use Rattle.walk_checks.proofs.laws.run_is_exact.Goals as goal

pub returns-clause-explained : goal.returns-clause-explained
returns-clause-explained c con I M steps refused walk = exact_explained con I refused steps (walk_exact con I (λ s e h answer t. Unit {0}) tt tt M steps refused walk)

pub returns-clause-exact : goal.returns-clause-exact
returns-clause-exact c con I M steps refused walk = walk_exact con I (λ s e h answer t. Unit {0}) tt tt M steps refused walk
