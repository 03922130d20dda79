use Rattle.std.proofs.Common.{arith}
use Rattle.digraph_orders.proofs.GroupLemmas.{others_alone}
use Rattle.digraph_orders.proofs.order.groups.Groups.new.Goals as goal

pub returns : goal.returns
returns c =
    record {
      long = c.requires.long;
      packed = c.in_ok-rows.ensures;
      several_long = c.requires.several;
      alone = λ v h off. others_alone c.args.ranks.now c.args.several (rw c.requires.long c.requires.others) v (omega (arith, h, c.requires.long)) off;
    }
