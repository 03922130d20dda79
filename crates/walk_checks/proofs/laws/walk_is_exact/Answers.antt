use Rattle.walk_checks.proofs.Exactness.{exact_explained}
use Rattle.walk_checks.proofs.Runs.{walk_exact}
use Rattle.walk_checks.proofs.laws.walk_is_exact.Goals as goal

pub returns-clause-explained : goal.returns-clause-explained
returns-clause-explained g c con I s t M steps refused walk = exact_explained con I refused steps (walk_exact con I g.O.Offerer.gives s t M steps refused walk)

pub returns-clause-exact : goal.returns-clause-exact
returns-clause-exact g c con I s t M steps refused walk = walk_exact con I g.O.Offerer.gives s t M steps refused walk
