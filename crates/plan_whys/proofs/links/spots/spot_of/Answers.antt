use Rattle.std.proofs.Common.{arith}
use Rattle.feature_labels.specs.Names.{label_of}
use Rattle.plan_whys.proofs.SpotLemmas.{at_host, at_target}
use Rattle.plan_whys.proofs.links.spots.spot_of.Goals as goal

pub returns-then-entry-count : goal.returns-then-entry-count
returns-then-entry-count c =
    at_target c.args.on.now c.visited.result.now c.args.node c.place-entry.result.0 c.package_count-count.result (label_of c.place-entry.result.1)
    c.visited.ensures c.package_count-count.ensures.count c.place-entry.ensures (omega (arith, c.if-entry-count.true))

pub returns-else-entry-count : goal.returns-else-entry-count
returns-else-entry-count c =
    at_host c.args.on.now c.visited.result.now c.args.node c.place-entry.result.0 c.package_count-count.result (label_of c.place-entry.result.1)
    c.visited.ensures c.package_count-count.ensures.count c.place-entry.ensures (omega (arith, c.if-entry-count.false))
