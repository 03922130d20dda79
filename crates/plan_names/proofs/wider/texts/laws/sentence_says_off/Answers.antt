use Rattle.plan_names.proofs.LastLines.{sentence_says_off}
use Rattle.plan_names.proofs.wider.texts.laws.sentence_says_off.Goals as goal

pub returns : goal.returns
returns c = sentence_says_off
