use Rattle.std.proofs.Common.{◌<◌, ◌≤◌, ℕ, length, slice_index}
use Rattle.digraph_orders.specs.inner.ComponentWalk.{IsFrontOf}
use Rattle.digraph_orders.proofs.components.walk.fold.Given as goal

abbrev pub invariant-loop-bounds : goal.invariant-loop-bounds
invariant-loop-bounds l =
    record {
      some : 0 < length l.bounds.items;
      front : IsFrontOf l.initial.bounds.items l.bounds.items;
      dropped : (i : ℕ) → length l.bounds.items ≤ i → i < length l.initial.bounds.items → l.mark ≤ slice_index l.initial.bounds.items i;
    }

abbrev pub decreases-loop-bounds : goal.decreases-loop-bounds
decreases-loop-bounds l = length l.bounds.items
