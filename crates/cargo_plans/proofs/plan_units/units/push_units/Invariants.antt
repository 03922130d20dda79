use Rattle.std.proofs.Common.{◌≡◌, ◌++◌, map, drop}
use Rattle.cargo_workspaces.specs.Views.{package_text}
use Rattle.cargo_plans.specs.plan_units.Units.{units_at, units_from}
use Rattle.cargo_plans.specs.plan_units.UnitViews.{unit_text}
use Rattle.cargo_plans.proofs.plan_units.units.push_units.Given as goal

abbrev pub invariant-loop-ix : goal.invariant-loop-ix
invariant-loop-ix l =
    map unit_text l.initial.units.items ++ units_at l.visits.on.now l.visits.built.now l.spot.place l.spot.side l.spot.first (map package_text l.packages)
    ≡ map unit_text l.units.items ++ units_from l.visits.on.now l.visits.built.now l.spot.place l.spot.side l.spot.first l.ix (map package_text (drop l.ix l.packages))
