use Rattle.std.proofs.Common.{◌≤◌, ◌<◌, ℕ, slice_index}
use Rattle.digraph_orders.specs.inner.Heads.{IsDone}
use Rattle.digraph_orders.proofs.order.listing.fresh_from.Given as goal

abbrev pub invariant-loop-place : goal.invariant-loop-place
invariant-loop-place l =
    record {
      after : l.from ≤ l.place;
      passed : (j : ℕ) → l.from ≤ j → j < l.place → IsDone l.done (slice_index l.row j);
    }
