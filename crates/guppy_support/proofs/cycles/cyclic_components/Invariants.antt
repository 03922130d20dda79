use Rattle.std.proofs.Common.{◌≡◌, ◌≤◌, ◌++◌}
use Rattle.guppy_support.specs.Cycles.{cyclic_components}
use Rattle.guppy_support.specs.inner.Cursors.{cyclic_below}
use Rattle.guppy_support.proofs.cycles.cyclic_components.Given as goal

-- The components listed so far, and the remaining ones, are the whole list.
abbrev pub invariant-loop-component : goal.invariant-loop-component
invariant-loop-component l = record {
  within : l.component ≤ l.order.count;
  cyclic : l.cyclic.items ++ cyclic_below l.digraph.edges l.order l.component ≡ cyclic_components l.digraph.edges l.order;
}

abbrev pub decreases-loop-component : goal.decreases-loop-component
decreases-loop-component l = l.component
