use Rattle.std.proofs.Common.{◌≡◌, false, length}
use Rattle.digraphs.specs.Bits.{has}
use Rattle.digraph_orders.specs.inner.Plans.{IsAtIn, HasRoom}
use Rattle.digraph_orders.proofs.order.listing.Plan.list.Given as goal

abbrev pub invariant-loop-place : goal.invariant-loop-place
invariant-loop-place l =
    record {
      at : IsAtIn l.graph l.ranks l.node l.place l.self;
      room : HasRoom l.self;
      longer : length l.self.listed.items ≡ length l.initial.self.listed.items;
      ready : has l.groups.several l.node ≡ false → l.self.ready ≡ l.initial.self.ready;
    }
