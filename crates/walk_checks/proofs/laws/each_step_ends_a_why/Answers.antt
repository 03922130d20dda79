use Rattle.walk_checks.proofs.WhyExists.{why_exists}
use Rattle.walk_checks.proofs.laws.each_step_ends_a_why.Goals as goal

pub returns : goal.returns
returns c = why_exists
