use Rattle.std.proofs.Common.{length, arith, ap, get_or}
use Rattle.digraphs.specs.Bits.{members}
use Rattle.digraph_orders.proofs.PlaceLemmas.{places_within}
use Rattle.digraph_orders.specs.inner.Plans.{rest_of}
use Rattle.digraph_orders.proofs.AtLemmas.{apart_positive, apart_next}
use Rattle.digraph_orders.proofs.order.listing.Plan.pass_apart.Goals as goal

pub leave_outside-requires-clause-positive : goal.leave_outside-requires-clause-positive
leave_outside-requires-clause-positive c = apart_positive c.args.graph.now c.args.ranks.now c.requires.setup c.args.node c.args.place c.args.self.now.listed.items c.args.self.now.done c.args.self.now.outside.items c.args.self.now.held.items (members c.args.self.now.starts) (members c.args.self.now.ready) (rest_of c.args.ranks.now (get_or c.args.ranks.now c.args.node 0) c.args.self.now) c.requires.at c.args.edge.to c.args.edge.non_dev c.requires.edge c.requires.apart

pub leave_outside-requires-clause-nodes : goal.leave_outside-requires-clause-nodes
leave_outside-requires-clause-nodes c =
    λ j h.
    let w = places_within (get_or c.args.ranks.now c.args.edge.to 0) c.args.ranks.now j h in
    let l = ap length c.deref.ensures.value in
    omega (arith, w.0, l, c.requires.at.plan.held_long, c.requires.setup.ranking.long)

pub returns-clause-at : goal.returns-clause-at
returns-clause-at c =
    rw c.leave_outside.ensures.outside
    (apart_next c.args.graph.now c.args.ranks.now c.requires.setup c.args.node c.args.place c.args.self.now.listed.items c.args.self.now.done c.args.self.now.outside.items c.args.self.now.held.items (members c.args.self.now.starts) (members c.args.self.now.ready) (rest_of c.args.ranks.now (get_or c.args.ranks.now c.args.node 0) c.args.self.now) c.requires.at c.args.edge.to c.args.edge.non_dev c.requires.edge c.requires.apart (members c.leave_outside.new.starts) (rw c.deref.ensures.value at c.leave_outside.ensures.starts))
