use Rattle.digraph_orders.proofs.OrderExists.{order_exists}
use Rattle.digraph_orders.proofs.laws.order_exists.Goals as goal

pub returns : goal.returns
returns c = order_exists
