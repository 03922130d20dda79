use Rattle.digraph_orders.specs.inner.Plans.{AreCounted, AreHolding}
use Rattle.digraph_orders.proofs.order.counts.count_edges.Given as goal

abbrev pub invariant-loop-number : goal.invariant-loop-number
invariant-loop-number l = record { counted : AreCounted l.graph l.ranks l.groups.several l.number l.outside.items; holding : AreHolding l.graph l.ranks l.number l.held.items }
