use Rattle.std.proofs.Common.{◌≡◌, ◌<◌, length, arith, get_or}
use Rattle.digraphs.specs.Bits.{members}
use Rattle.digraphs.specs.Rows.{places}
use Rattle.digraph_orders.specs.inner.Plans.{rest_of, IsFreshPlace}
use Rattle.digraph_orders.proofs.PlaceLemmas.{places_within}
use Rattle.digraph_orders.proofs.ChoiceLemmas.{choose_ready, choose_rest, within_end, rank_small, takes_row, row_done}
use Rattle.digraph_orders.proofs.order.listing.Plan.next_within.Goals as goal

pub pop_fresh-requires : goal.pop_fresh-requires
pop_fresh-requires c =
    λ y h.
    let o = c.requires.within.run.ready_only y h in
    omega (arith, o.0, c.requires.within.plan.done_long)

pub returns-in-Some-clause-some : goal.returns-in-Some-clause-some
returns-in-Some-clause-some c =
    let p = c.args.self.now in
    let t = c.in-Some.ensures.some in
    rw (c.requires.within.run.ready_only c.in-Some.node t.was).1.0
    (choose_ready c.args.graph.now c.args.ranks.now c.requires.setup p.listed.items p.done p.outside.items p.held.items (members p.starts)
    c.args.rank (members p.ready) (rest_of c.args.ranks.now c.args.rank p) c.requires.within c.in-Some.node (members c.pop_fresh.new.queue) t)

pub row-members-requires-clause-rank : goal.row-members-requires-clause-rank
row-members-requires-clause-rank c =
    let p = c.args.self.now in
    let small = rank_small c.args.graph.now c.args.ranks.now c.requires.setup p.listed.items p.done p.outside.items p.held.items (members p.starts)
    c.args.rank (members p.ready) (rest_of c.args.ranks.now c.args.rank p) c.requires.within in
    omega (arith, small, c.node_count.ensures)

pub fresh_from-requires : goal.fresh_from-requires
fresh_from-requires c =
    record {
      nodes = λ j h.
          let h' : j < length (places c.args.rank c.args.ranks.now) = rw c.row-members.ensures at h in
          let w = places_within c.args.rank c.args.ranks.now j h' in
          rw c.row-members.ensures (omega (arith, w.0, c.requires.within.plan.done_long, c.requires.setup.ranking.long));
    }

pub returns-in_default-fresh_from-clause-none : goal.returns-in_default-fresh_from-clause-none
returns-in_default-fresh_from-clause-none c =
    let p = c.args.self.now in (
      within_end c.args.graph.now c.args.ranks.now c.requires.setup p.listed.items p.done p.outside.items p.held.items (members p.starts)
          c.args.rank (members p.ready) (rest_of c.args.ranks.now c.args.rank p) c.requires.within
          (row_done (places c.args.rank c.args.ranks.now) p.done p.next (rw c.row-members.ensures at c.in_default-fresh_from.ensures.none)),
      c.in_default.ensures.empty,
    )

pub returns-clause-some : goal.returns-clause-some
returns-clause-some c =
    let p = c.args.self.now in
    let place = c.in-Some-fresh_from.place in
    let f : IsFreshPlace (places c.args.rank c.args.ranks.now) p.done p.next place = rw c.row-members.ensures at c.in-Some-fresh_from.ensures.some in
    let rank : get_or c.args.ranks.now (get_or (places c.args.rank c.args.ranks.now) place 0) 0 ≡ c.args.rank = (places_within c.args.rank c.args.ranks.now place f.within).1 in
    rw (c.row-members.ensures, rank, c.in_default.ensures.empty)
    (choose_rest c.args.graph.now c.args.ranks.now c.requires.setup p.listed.items p.done p.outside.items p.held.items (members p.starts)
    c.args.rank (members p.ready) (rest_of c.args.ranks.now c.args.rank p) c.requires.within _ _ c.in_default.ensures.none
    (takes_row c.args.ranks.now c.args.rank p.done p.next place f))
