use Rattle.std.proofs.Common.{arith}
use Rattle.std.proofs.lemmas.List.{get_or_read}
use Rattle.digraph_orders.proofs.AtLemmas.{ready_joins}
use Rattle.digraph_orders.proofs.order.listing.leave_held.Goals as goal

pub returns-then-left-eq0-clause-ready : goal.returns-then-left-eq0-clause-ready
returns-then-left-eq0-clause-ready c =
    let read = get_or_read c.args.held.now.items c.args.node c.index.result.now c.requires.node c.index.ensures 0 in
    ready_joins _ _ _ _ (omega (arith, read, c.if-left-eq0.true)) c.push.ensures.joins
