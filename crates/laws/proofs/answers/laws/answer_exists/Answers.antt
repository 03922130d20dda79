use Rattle.laws.proofs.BytesAnswered.{answer_exists}
use Rattle.laws.proofs.answers.laws.answer_exists.Goals as goal

pub returns : goal.returns
returns c = answer_exists c.order_exists.ensures
