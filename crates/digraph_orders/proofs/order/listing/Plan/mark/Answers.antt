use Rattle.std.proofs.Common.{get_or}
use Rattle.digraphs.specs.Bits.{members}
use Rattle.digraph_orders.specs.inner.Plans.{rest_of}
use Rattle.digraph_orders.proofs.AtLemmas.{at_begin}
use Rattle.digraph_orders.proofs.order.listing.Plan.mark.Goals as goal

pub returns-clause-at : goal.returns-clause-at
returns-clause-at c =
    rw (c.in_ok-push.ensures.items, c.insert.ensures)
    (at_begin c.args.graph.now c.args.ranks.now c.args.node c.args.self.now.listed.items c.args.self.now.done c.args.self.now.outside.items c.args.self.now.held.items (members c.args.self.now.starts) (members c.args.self.now.ready) (rest_of c.args.ranks.now (get_or c.args.ranks.now c.args.node 0) c.args.self.now) c.requires.chosen)
