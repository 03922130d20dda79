use Rattle.digraphs.specs.Bits.{members}
use Rattle.digraph_orders.proofs.FirstLemmas.{first_pause}
use Rattle.digraph_orders.proofs.QueueLemmas.{members_empty}
use Rattle.digraph_orders.proofs.order.counts.first_plan.Goals as goal

pub returns-clause-pause : goal.returns-clause-pause
returns-clause-pause c =
    rw (c.in_ok-listed.ensures.list, c.in_ok-listed.ensures.set, c.node_count-nodes.ensures) (
      first_pause c.args.graph.now c.args.ranks.now c.requires.setup c.in_ok-counts.counts.0.items c.in_ok-counts.counts.1.items (members c.in_ok-starts.starts) c.in_ok-counts.ensures.entering c.in_ok-counts.ensures.holding
          (rw (c.deref.ensures.value, c.deref-2.ensures.value, c.node_count-nodes.ensures) at c.in_ok-starts.ensures.firsts),
      rw c.in_ok-ready.ensures (members_empty c.node_count-nodes.result),
    )
