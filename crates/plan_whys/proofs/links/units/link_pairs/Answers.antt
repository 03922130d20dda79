use Rattle.std.proofs.Common.{arith, map}
use Rattle.guppy_packages.specs.Tables.{pair_of}
use Rattle.plan_whys.proofs.UnitLemmas.{all_pushed, pair_pushed}
use Rattle.plan_whys.proofs.links.units.link_pairs.Goals as goal

pub loop-number-preserved : goal.loop-number-preserved
loop-number-preserved c =
    pair_pushed (map pair_of c.args.packages.now.links) c.loop-number.number c.pair_of.result c.loop-number.pairs.items c.push.new.self.items
    c.pair_of.ensures c.loop-number.invariant c.in_ok-push.ensures.items

pub returns : goal.returns
returns c = all_pushed c.args.packages.now.links c.loop-number.number c.loop-number.pairs.items (omega (arith, c.loop-number-test.false, c.link_count-number-end.ensures)) c.loop-number.invariant
