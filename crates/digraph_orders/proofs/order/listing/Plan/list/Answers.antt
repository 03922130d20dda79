use Rattle.std.proofs.Common.{get_or, arith}
use Rattle.digraphs.specs.Bits.{members}
use Rattle.digraph_orders.specs.inner.Plans.{rest_of}
use Rattle.digraph_orders.proofs.OutEdgeLemmas.{out_length}
use Rattle.digraph_orders.proofs.AtLemmas.{at_end}
use Rattle.digraph_orders.proofs.order.listing.Plan.list.Goals as goal

pub returns-clause-within : goal.returns-clause-within
returns-clause-within c =
    let l = out_length c.args.graph.now c.args.node c.out_edges-edges.result.start c.out_edges-edges.result.end c.out_edges-edges.ensures.numbers in
    let p = c.loop-place.self in
    at_end c.args.graph.now c.args.ranks.now c.args.node p.listed.items p.done p.outside.items p.held.items (members p.starts) (members p.ready) (rest_of c.args.ranks.now (get_or c.args.ranks.now c.args.node 0) p) c.loop-place.place
    (omega (arith, l, c.loop-place-test.false)) c.loop-place.invariant.at

pub pass-requires-clause-place : goal.pass-requires-clause-place
pass-requires-clause-place c =
    let l = out_length c.args.graph.now c.args.node c.out_edges-edges.result.start c.out_edges-edges.result.end c.out_edges-edges.ensures.numbers in
    omega (arith, l, c.loop-place-test.true)
