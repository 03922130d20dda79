use Rattle.digraph_orders.proofs.LawLemmas.{one_order}
use Rattle.digraph_orders.proofs.laws.one_order.Goals as goal

pub returns : goal.returns
returns c = one_order
