use Rattle.digraph_orders.proofs.SequenceLemmas.{order_lists_each}
use Rattle.digraph_orders.proofs.laws.order_lists_each.Goals as goal

pub returns : goal.returns
returns c = order_lists_each
