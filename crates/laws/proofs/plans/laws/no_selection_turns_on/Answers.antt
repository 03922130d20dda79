use Rattle.laws.proofs.WidestWords.{no_selection_turns_on, widest_turns_all_on}
use Rattle.laws.proofs.plans.laws.no_selection_turns_on.Goals as goal

pub returns-clause-widest : goal.returns-clause-widest
returns-clause-widest c = widest_turns_all_on

pub returns-clause-off : goal.returns-clause-off
returns-clause-off c = no_selection_turns_on
