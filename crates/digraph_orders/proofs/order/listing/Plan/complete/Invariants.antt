use Rattle.std.proofs.Common.{◌-◌, length}
use Rattle.digraph_orders.specs.inner.Plans.{IsPauseIn, HasRoom}
use Rattle.digraph_orders.proofs.order.listing.Plan.complete.Given as goal

abbrev pub invariant-loop-start : goal.invariant-loop-start
invariant-loop-start l = record { pause : IsPauseIn l.graph l.ranks l.self; room : HasRoom l.self }

abbrev pub decreases-loop-start : goal.decreases-loop-start
decreases-loop-start l = l.graph.nodes - length l.self.listed.items
