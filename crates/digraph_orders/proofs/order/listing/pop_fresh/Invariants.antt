use Rattle.std.proofs.Common.{◌≡◌, ℕ, length, Contains}
use Rattle.digraphs.specs.Bits.{members}
use Rattle.digraph_orders.specs.inner.Heads.{IsDone}
use Rattle.digraph_orders.proofs.order.listing.pop_fresh.Given as goal

abbrev pub invariant-loop-number : goal.invariant-loop-number
invariant-loop-number l =
    record {
      kept : (y : ℕ) → Contains (members l.initial.queue) y → ¬ IsDone l.done y → Contains (members l.queue) y;
      room : length l.queue ≡ length l.initial.queue;
      only : (y : ℕ) → Contains (members l.queue) y → Contains (members l.initial.queue) y;
    }

abbrev pub decreases-loop-number : goal.decreases-loop-number
decreases-loop-number l = length (members l.queue)
