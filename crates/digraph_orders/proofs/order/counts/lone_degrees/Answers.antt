use Rattle.std.proofs.Common.{arith}
use Rattle.digraph_orders.proofs.DegreeLemmas.{degree_few}
use Rattle.digraph_orders.proofs.order.counts.lone_degrees.Goals as goal

pub overflow_cast-in_degree : goal.overflow_cast-in_degree
overflow_cast-in_degree c = omega (arith, c.in_degree.ensures, degree_few c.args.graph.now.edges c.loop-node.node, c.bounds.ensures.edges)
