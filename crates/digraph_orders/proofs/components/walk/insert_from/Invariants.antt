use Rattle.std.proofs.Common.{◌≡◌, ℕ, ◌<◌, ◌≤◌, true, length, slice_index}
use Rattle.digraphs.specs.Bits.{has}
use Rattle.digraph_orders.specs.inner.ComponentWalk.{IsInOrFrom}
use Rattle.digraph_orders.proofs.components.walk.insert_from.Given as goal

abbrev pub invariant-loop-place : goal.invariant-loop-place
invariant-loop-place l =
    record {
      long : length l.set ≡ length l.initial.set;
      only : (v : ℕ) → has l.set v ≡ true → IsInOrFrom l.initial.set l.pending l.from v;
      kept : (v : ℕ) → has l.initial.set v ≡ true → has l.set v ≡ true;
      all : (i : ℕ) → l.from ≤ i → i < l.place → has l.set (slice_index l.pending i) ≡ true;
    }
