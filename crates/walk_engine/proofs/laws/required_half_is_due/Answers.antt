use Rattle.walk_engine.proofs.Runs.{required_due}
use Rattle.walk_engine.proofs.laws.required_half_is_due.Goals as goal

pub returns : goal.returns
returns c = required_due
