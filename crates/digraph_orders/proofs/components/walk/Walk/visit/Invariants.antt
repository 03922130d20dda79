use Rattle.std.proofs.Common.{◌≢◌, ℕ, slice_index}
use Rattle.digraph_orders.specs.inner.ComponentWalk.{IsWalk, steps_left}
use Rattle.digraph_orders.proofs.components.walk.Walk.visit.Given as goal

abbrev pub invariant-loop-self : goal.invariant-loop-self
invariant-loop-self l =
    record {
      walk : IsWalk l.graph l.self;
      kept : (v : ℕ) → slice_index l.initial.self.marks.items v ≢ 0 → slice_index l.self.marks.items v ≢ 0;
    }

abbrev pub decreases-loop-self : goal.decreases-loop-self
decreases-loop-self l = steps_left l.graph l.self
