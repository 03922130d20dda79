use Rattle.digraph_orders.proofs.FirstLemmas.{edge_is}
use Rattle.digraph_orders.proofs.order.counts.edge_at.Goals as goal

pub returns : goal.returns
returns c = edge_is c.args.graph.now c.args.number c.edge.result c.facts.ensures c.requires c.edge.ensures
