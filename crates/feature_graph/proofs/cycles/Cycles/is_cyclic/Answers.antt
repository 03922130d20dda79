use Rattle.std.proofs.Common.{arith, subst, sym}
use Rattle.digraph_orders.specs.Sequences.{IsOrderOf}
use Rattle.feature_graph.specs.Views.{tables_of_graph, built_of}
use Rattle.feature_graph.proofs.BuiltLemmas.{built_count}
use Rattle.feature_graph.proofs.OrderedLemmas.{same_digraph}
use Rattle.feature_graph.proofs.cycles.Cycles.is_cyclic.Goals as goal

pub is_cyclic-requires-clause-order : goal.is_cyclic-requires-clause-order
is_cyclic-requires-clause-order c =
    let b = built_of c.args.self.now.graph in
    subst (λ g. IsOrderOf g c.order.result.now) (sym (same_digraph c.digraph.result.now b c.digraph.ensures.nodes c.digraph.ensures.edges)) c.order.ensures

pub is_cyclic-requires-clause-a : goal.is_cyclic-requires-clause-a
is_cyclic-requires-clause-a c =
    let g = c.args.self.now.graph in
    omega (arith, c.in_ok-first.ensures.first, c.digraph.ensures.nodes, built_count (tables_of_graph g) (built_of g) g.is_built)

pub is_cyclic-requires-clause-b : goal.is_cyclic-requires-clause-b
is_cyclic-requires-clause-b c =
    let g = c.args.self.now.graph in
    omega (arith, c.in_ok-first.ensures.second, c.digraph.ensures.nodes, built_count (tables_of_graph g) (built_of g) g.is_built)
