use Rattle.std.proofs.Common.{◌≡◌, length}
use Rattle.digraphs.specs.Bits.{members}
use Rattle.digraph_orders.specs.inner.Plans.{AreFirsts}
use Rattle.digraph_orders.proofs.order.counts.first_starts.Given as goal

abbrev pub invariant-loop-rank : goal.invariant-loop-rank
invariant-loop-rank l =
    record {
      firsts : AreFirsts l.ranks l.outside l.held l.rank (members l.starts);
      room : length l.starts ≡ l.nodes;
    }
