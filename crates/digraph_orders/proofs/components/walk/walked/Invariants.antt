use Rattle.std.proofs.Common.{◌≡◌, ◌≢◌, ℕ, ◌<◌, ◌≤◌, length, slice_index}
use Rattle.digraph_orders.specs.inner.ComponentWalk.{IsWalk}
use Rattle.digraph_orders.proofs.components.walk.walked.Given as goal

abbrev pub invariant-loop-root : goal.invariant-loop-root
invariant-loop-root l =
    record {
      walk : IsWalk l.graph l.walk;
      none : length l.walk.opened.items ≡ 0;
      within : l.root ≤ l.graph.nodes;
      seen : (v : ℕ) → l.root ≤ v → v < l.graph.nodes → slice_index l.walk.marks.items v ≢ 0;
    }

abbrev pub decreases-loop-root : goal.decreases-loop-root
decreases-loop-root l = l.root
