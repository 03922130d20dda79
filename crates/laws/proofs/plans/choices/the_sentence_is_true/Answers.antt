use Rattle.laws.proofs.Sentence.{sentence_is_true}
use Rattle.laws.proofs.plans.choices.the_sentence_is_true.Goals as goal

pub returns : goal.returns
returns c = sentence_is_true c.no_choice_turns_on.ensures c.sentence_says_off.ensures
