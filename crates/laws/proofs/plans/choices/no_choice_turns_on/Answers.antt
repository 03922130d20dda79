use Rattle.laws.proofs.NoChoice.{no_choice_turns_on}
use Rattle.laws.proofs.plans.choices.no_choice_turns_on.Goals as goal

pub returns : goal.returns
returns c = no_choice_turns_on c.no_selection_turns_on.ensures.off
