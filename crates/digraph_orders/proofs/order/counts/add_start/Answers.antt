use Rattle.digraphs.specs.Bits.{members}
use Rattle.digraph_orders.proofs.FirstLemmas.{firsts_more}
use Rattle.digraph_orders.proofs.order.counts.add_start.Goals as goal

pub returns-clause-firsts : goal.returns-clause-firsts
returns-clause-firsts c =
    firsts_more c.args.ranks.now c.args.outside.now c.args.held.now c.args.rank c.first_of.result (members c.args.starts.now) (members c.push.new.self) c.requires.firsts c.if-outside-rank-ne0.false
    (rw c.requires.row at c.first_of.ensures) c.push.ensures.joins
