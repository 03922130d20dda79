use Rattle.digraph_orders.proofs.GroupLemmas.{alone_waits}
use Rattle.digraph_orders.proofs.order.listing.make_ready.Goals as goal

pub returns-then-is_alone-clause-waits : goal.returns-then-is_alone-clause-waits
returns-then-is_alone-clause-waits c =
    rw c.requires.none (alone_waits c.args.ranks.now c.args.start c.requires.start (c.is_alone.ensures.alone c.if-is_alone.true) c.args.held.now)
