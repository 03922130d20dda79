use Rattle.guppy_support.proofs.laws.one_list.Goals as goal

pub returns : goal.returns
returns c = λ g o p of_o of_p. c.one_order.ensures g o.list p.list of_o.order of_p.order
