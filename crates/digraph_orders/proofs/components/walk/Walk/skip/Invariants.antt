use Rattle.std.proofs.Common.{◌≡◌, ◌≤◌, ◌-◌, length, slice_index}
use Rattle.digraph_orders.specs.inner.ComponentWalk.{IsWalk, steps_left}
use Rattle.digraph_orders.proofs.components.walk.Walk.skip.Given as goal

abbrev pub invariant-loop-self : goal.invariant-loop-self
invariant-loop-self l =
    record {
      walk : IsWalk l.graph l.self;
      opened : l.self.opened.items ≡ l.initial.self.opened.items;
      steps : steps_left l.graph l.self ≤ steps_left l.graph l.initial.self;
      kept : l.self.marks.items ≡ l.initial.self.marks.items;
    }

abbrev pub decreases-loop-self : goal.decreases-loop-self
decreases-loop-self l = slice_index l.self.left.items (length l.self.left.items - 1)
