use Rattle.std.proofs.Common.{◌∙◌, ap, arith}
use Rattle.digraphs.specs.Bits.{members}
use Rattle.digraphs.specs.Rows.{places}
use Rattle.digraph_orders.specs.inner.Plans.{rest_of, IsWithinIn}
use Rattle.digraph_orders.proofs.GroupLemmas.{alone_done}
use Rattle.digraph_orders.proofs.ChoiceLemmas.{within_end, row_done}
use Rattle.digraph_orders.proofs.order.listing.Plan.complete.Goals as goal

pub loop-start-preserved : goal.loop-start-preserved
loop-start-preserved c =
    let p = c.list.new.self in
    let ranks = c.args.ranks.now in
    let start = c.in-Some.start in
    let off = c.is_alone.ensures.off c.if-not-is_alone.false in
    let alone = c.is_alone.ensures.alone c.if-not-is_alone.false in
    let w : IsWithinIn c.args.graph.now ranks start p = rw alone.rank at c.in_ok-list.ensures.within in
    record {
      pause = (
        within_end c.args.graph.now ranks c.requires.setup p.listed.items p.done p.outside.items p.held.items (members p.starts)
            start (members p.ready) (rest_of ranks start p) w
            (row_done (places start ranks) p.done p.next
            (λ j from l. alone_done ranks p.done start (omega (arith, w.plan.done_long, c.requires.setup.ranking.long)) alone w.run.begun j l)),
        ap members (c.in_ok-list.ensures.ready off) ∙ c.in-Some.ensures.ready off,
      );
      room = c.in_ok-list.ensures.room;
    }
