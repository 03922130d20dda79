use Rattle.std.proofs.Common.{◌≡◌, ℕ, ◌<◌, ◌≤◌, true, length, slice_index}
use Rattle.digraphs.specs.Bits.{has}
use Rattle.digraph_orders.specs.inner.ComponentWalk.{AreGiven, IsInOrFrom}
use Rattle.digraph_orders.proofs.components.walk.give.Given as goal

abbrev pub invariant-loop-place : goal.invariant-loop-place
invariant-loop-place l =
    record {
      long : length l.marks.items ≡ length l.initial.marks.items;
      within : l.place ≤ length l.pending;
      given : AreGiven l.initial.marks.items l.marks.items l.from l.place l.level;
      finished_long : length l.finished ≡ length l.initial.finished;
      only : (v : ℕ) → has l.finished v ≡ true → IsInOrFrom l.initial.finished l.pending l.from v;
      kept : (v : ℕ) → has l.initial.finished v ≡ true → has l.finished v ≡ true;
      all : (i : ℕ) → l.from ≤ i → i < l.place → has l.finished (slice_index l.pending i) ≡ true;
    }
