use Rattle.laws.proofs.DenyLemmas.{no_choice, no_choice_on}
use Rattle.laws.proofs.plans.denies.no_choice_breaks_a_deny.Goals as goal

pub returns-clause-everywhere : goal.returns-clause-everywhere
returns-clause-everywhere c = no_choice c.no_selection_turns_on.ensures.widest

pub returns-clause-on_platform : goal.returns-clause-on_platform
returns-clause-on_platform c = no_choice_on c.no_selection_turns_on.ensures.widest
