use Rattle.std.proofs.Common.{arith}
use Rattle.digraph_orders.proofs.OutEdgeLemmas.{place_inside, out_number, out_length}
use Rattle.digraph_orders.proofs.AtLemmas.{out_is}
use Rattle.digraph_orders.proofs.order.listing.out_edge.Goals as goal

pub overflow_add-out_edges : goal.overflow_add-out_edges
overflow_add-out_edges c =
    let l = out_length c.args.graph.now c.args.node c.out_edges.result.start c.out_edges.result.end c.out_edges.ensures.numbers in
    omega (arith, l, c.out_edges.ensures.ascends)

pub edge-requires : goal.edge-requires
edge-requires c =
    rw (out_number c.args.graph.now c.args.node c.args.place c.out_edges.result.start c.out_edges.result.end c.out_edges.ensures.numbers c.requires.place)
    (place_inside c.args.graph.now c.args.node c.args.place c.requires.place)

pub returns : goal.returns
returns c =
    out_is c.args.graph.now c.args.node c.args.place c.edge.result c.facts.ensures c.requires.place
    (rw (out_number c.args.graph.now c.args.node c.args.place c.out_edges.result.start c.out_edges.result.end c.out_edges.ensures.numbers c.requires.place) at c.edge.ensures)
