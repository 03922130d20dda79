use Rattle.std.proofs.Common.{◌≡◌, ◌∙◌, ap, subst, length, replicate, true}
use Rattle.digraph_orders.specs.Sequences.{IsOrderOf}
use Rattle.guppy_packages.specs.Tables.{Tables}
use Rattle.feature_core.specs.Built.{Built, digraph_of}
use Rattle.feature_core.specs.Nodes.{nodes}
use Rattle.feature_graph.specs.Values.{Graph}
use Rattle.guppy_tool.proofs.OrderingLemmas.{orders_nodes, lists_in_order}
use Rattle.guppy_tool.proofs.ordering.ordered.Goals as goal

pub returns : goal.returns
returns c =
    let t : Tables = c.args.graph.now in
    let built : Built = c.args.built.now in
    let set = c.in-Ok.set in
    let at = c.in_ok-lines_in_order.ensures in
    let graph : set.graph ≡ record { tables = t; built = built } = c.in-Ok.ensures.graph ∙ c.feature_graph.ensures in
    let members : set.members ≡ replicate (length (nodes t)) true = c.in-Ok.ensures.members ∙ ap (λ (g : Graph). replicate (length (nodes g.tables)) true) c.feature_graph.ensures in
    let order : IsOrderOf (digraph_of built) at.0 = subst (λ (g : Graph). IsOrderOf (digraph_of g.built) at.0) graph at.1 in
    lists_in_order t built c.args.direction set at.0 _ graph members (c.content_of_graph.ensures.count built c.requires) c.order_lists_each.ensures at.1
    (orders_nodes t built at.0 c.requires order c.one_digraph.ensures)
    at.2
