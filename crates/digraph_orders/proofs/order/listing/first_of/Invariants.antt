use Rattle.std.proofs.Common.{◌≢◌, ℕ, ◌<◌, slice_index}
use Rattle.digraph_orders.proofs.order.listing.first_of.Given as goal

abbrev pub invariant-loop-place : goal.invariant-loop-place
invariant-loop-place l =
    record {
      held : (j : ℕ) → j < l.place → slice_index l.held (slice_index l.row j) ≢ 0;
    }
