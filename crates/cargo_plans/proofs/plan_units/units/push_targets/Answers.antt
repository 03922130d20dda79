use Rattle.std.proofs.Common.{◌≡◌, ◌+◌, ◌-◌, suc, length, map, arith}
use Rattle.std.proofs.lemmas.List.{length-map}
use Rattle.cargo_workspaces.specs.Views.{package_text}
use Rattle.cargo_plans.specs.plan_units.UnitViews.{unit_text}
use Rattle.cargo_plans.proofs.UnitLemmas.{room_step, targets_step}
use Rattle.cargo_plans.proofs.plan_units.units.push_targets.Goals as goal

pub loop-number-preserved : goal.loop-number-preserved
loop-number-preserved c =
    let packages = c.args.packages.now in
    let k = c.loop-number.number in
    let many = c.args.count - k in
    let few = c.args.count - (k + 1) in
    let next : many ≡ suc few = omega (arith, c.loop-number-test.true) in
    record {
      room = room_step c.loop-number.first (length packages) many few _ next c.loop-number.invariant.room;
      units = targets_step c.args.visits.on.now c.args.visits.built.now (map package_text packages) k c.loop-number.first (length packages) many few _ (map unit_text c.loop-number.units.items) (map unit_text c.push_units.new.units.items) next (length-map packages package_text) c.loop-number.invariant.units c.in_ok-push_units.ensures;
    }
