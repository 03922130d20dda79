use Rattle.std.proofs.Common.{◌≤◌}
use Rattle.digraph_orders.specs.inner.Plans.{AreDegrees}
use Rattle.digraph_orders.proofs.order.counts.lone_degrees.Given as goal

abbrev pub invariant-loop-node : goal.invariant-loop-node
invariant-loop-node l = record { degrees : AreDegrees l.graph l.groups.several l.node l.degrees.items; within : l.node ≤ l.graph.nodes }
