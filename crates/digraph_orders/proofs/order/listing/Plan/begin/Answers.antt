use Rattle.std.proofs.Common.{length, arith, ap, get_or}
use Rattle.digraphs.specs.Bits.{members}
use Rattle.digraph_orders.proofs.PlaceLemmas.{places_within}
use Rattle.digraph_orders.proofs.ChoiceLemmas.{choose_start, order_end, filled}
use Rattle.digraph_orders.proofs.order.listing.Plan.begin.Goals as goal

pub pop_fresh-requires : goal.pop_fresh-requires
pop_fresh-requires c =
    λ y h.
    let o = c.requires.pause.0.plan.starts_nodes y h in
    omega (arith, o, c.requires.pause.0.plan.done_long)

pub returns-in_default-clause-none : goal.returns-in_default-clause-none
returns-in_default-clause-none c = order_end c.args.graph.now c.args.ranks.now c.requires.setup c.args.self.now.listed.items c.args.self.now.done c.args.self.now.outside.items c.args.self.now.held.items (members c.args.self.now.starts) c.requires.pause.0 c.in_default.ensures.none

pub make_ready-requires-clause-start : goal.make_ready-requires-clause-start
make_ready-requires-clause-start c = omega (arith, c.requires.pause.0.plan.starts_nodes _ c.in-Some.ensures.some.was, c.requires.setup.ranking.long)

pub make_ready-requires-clause-nodes : goal.make_ready-requires-clause-nodes
make_ready-requires-clause-nodes c =
    λ j h.
    let w = places_within (get_or c.args.ranks.now c.in-Some.start 0) c.args.ranks.now j h in
    let l = ap length c.deref.ensures.value in
    omega (arith, w.0, l, c.requires.pause.0.plan.held_long, c.requires.setup.ranking.long)

pub returns-clause-some : goal.returns-clause-some
returns-clause-some c =
    let p = c.args.self.now in
    choose_start c.args.graph.now c.args.ranks.now c.requires.setup p.listed.items p.done p.outside.items p.held.items (members p.starts) c.requires.pause.0 c.in-Some.start (members c.pop_fresh.new.queue) (members c.make_ready.new.ready)
    c.in-Some.ensures.some
    (filled c.args.graph.now.nodes c.args.ranks.now p.held.items (get_or c.args.ranks.now c.in-Some.start 0) c.in-Some.start (members c.make_ready.new.ready) c.requires.setup.ranking.long
    (rw c.deref.ensures.value at c.make_ready.ensures.waits))
