use Rattle.walk_checks.specs.Exact.{named_in}
use Rattle.walk_checks.proofs.Steps.{explained_in, explained_named}
use Rattle.walk_checks.proofs.laws.explained_in_least.Goals as goal

pub returns : goal.returns
returns c con I steps ok n listed S closed = explained_in con I (named_in steps) S steps (explained_named con I steps ok) closed n listed
