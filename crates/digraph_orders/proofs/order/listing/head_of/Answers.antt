use Rattle.std.proofs.Common.{arith, refl, get_or}
use Rattle.digraph_orders.proofs.GroupLemmas.{row_complete, alone_first}
use Rattle.digraph_orders.proofs.order.listing.head_of.Goals as goal

pub first_of-requires-clause-some : goal.first_of-requires-clause-some
first_of-requires-clause-some c =
    let r = row_complete c.args.ranks.now (get_or c.args.ranks.now c.args.node 0) c.args.node c.requires.node refl in
    rw c.row.ensures (omega (arith, r.1))

pub first_of-requires-clause-nodes : goal.first_of-requires-clause-nodes
first_of-requires-clause-nodes c = λ j h. rw c.row.ensures (c.requires.nodes j (rw c.row.ensures at h))

pub returns : goal.returns
returns c = rw c.row.ensures at c.first_of.ensures

pub returns-then-is_alone : goal.returns-then-is_alone
returns-then-is_alone c = alone_first c.args.ranks.now c.args.node c.requires.node (c.is_alone.ensures.alone c.if-is_alone.true) c.args.held.now
