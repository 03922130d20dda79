use Rattle.guppy_tool.proofs.LawLemmas.{one_answer, one_refusal}
use Rattle.guppy_tool.proofs.laws.one_answer.Goals as goal

pub returns-clause-answer : goal.returns-clause-answer
returns-clause-answer c = one_answer c.label_order_is_total.ensures c.one_order.ensures c.order_lists_each.ensures

pub returns-clause-refusal : goal.returns-clause-refusal
returns-clause-refusal c = one_refusal c.label_order_is_total.ensures c.one_order.ensures c.order_lists_each.ensures
