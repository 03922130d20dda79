use Rattle.std.proofs.Common.{arith}
use Rattle.digraphs.specs.Bits.{has}
use Rattle.plan_whys.specs.links.inner.Pairs.{counted_ends}
use Rattle.plan_whys.proofs.WayLemmas.{way_step}
use Rattle.plan_whys.proofs.links.ways.way_pairs.Goals as goal

pub loop-number-preserved : goal.loop-number-preserved
loop-number-preserved c =
    way_step (has c.args.members.now) c.args.table.now.holds.ways c.loop-number.number (counted_ends (has c.args.members.now) c.args.table.now.holds.ways) c.loop-number.pairs.items c.push_number.new.pairs.items
    (omega (arith, c.loop-number-test.true, c.edge_count-number-end.ensures)) c.in_ok-push_number.ensures c.loop-number.invariant
