use Rattle.std.proofs.Common.{◌≤◌, ◌-◌, length}
use Rattle.digraph_orders.specs.inner.Plans.{IsWithinIn, HasRoom}
use Rattle.digraph_orders.proofs.order.listing.Plan.finish.Given as goal

abbrev pub invariant-loop-node : goal.invariant-loop-node
invariant-loop-node l =
    record {
      within : IsWithinIn l.graph l.ranks l.rank l.self;
      room : HasRoom l.self;
      longer : length l.initial.self.listed.items ≤ length l.self.listed.items;
    }

abbrev pub decreases-loop-node : goal.decreases-loop-node
decreases-loop-node l = l.graph.nodes - length l.self.listed.items
