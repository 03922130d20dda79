use Rattle.std.proofs.Common.{◌≡◌, ◌≢◌, ◌<◌, ℕ, slice_index, length, Contains}
use Rattle.digraphs.specs.Bits.{members}
use Rattle.digraph_orders.proofs.order.listing.add_ready.Given as goal

abbrev pub invariant-loop-place : goal.invariant-loop-place
invariant-loop-place l =
    record {
      ready_all : (j : ℕ) → j < l.place → slice_index l.held (slice_index l.row j) ≡ 0 → slice_index l.row j ≢ l.start → Contains (members l.ready) (slice_index l.row j);
      room : length l.ready ≡ length l.initial.ready;
      ready_only : (y : ℕ) → Contains (members l.ready) y → Contains l.row y × (slice_index l.held y ≡ 0);
    }
