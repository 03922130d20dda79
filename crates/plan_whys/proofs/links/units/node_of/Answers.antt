use Rattle.std.proofs.Common.{arith}
use Rattle.cargo_plans.specs.plan_units.UnitViews.{unit_text}
use Rattle.plan_whys.specs.links.UnitLinks as spec
use Rattle.plan_whys.proofs.UnitLemmas.{no_node}
use Rattle.plan_whys.proofs.links.units.node_of.Goals as goal

pub returns-in-None : goal.returns-in-None
returns-in-None c =
    no_node c.args.built.now c.packages.result.now (spec.entry_of c.args.count (unit_text c.args.unit.now)) c.package_count-room.result
    c.packages.ensures c.package_count-room.ensures (omega arith) c.in-None.ensures
