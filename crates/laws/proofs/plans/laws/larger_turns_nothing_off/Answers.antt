use Rattle.laws.proofs.Wider.{larger_turns_nothing_off}
use Rattle.laws.proofs.plans.laws.larger_turns_nothing_off.Goals as goal

pub returns : goal.returns
returns c = larger_turns_nothing_off
