use Rattle.std.proofs.Common.{◌≡◌, ◌+◌, ◌-◌, ◌*◌, ◌≤◌, ◌++◌, length, map}
use Rattle.cargo_workspaces.specs.Views.{package_text}
use Rattle.cargo_plans.specs.plan_units.Units.{target_units}
use Rattle.cargo_plans.specs.plan_units.UnitViews.{unit_text}
use Rattle.cargo_plans.proofs.plan_units.units.push_targets.Given as goal

abbrev pub invariant-loop-number : goal.invariant-loop-number
invariant-loop-number l = record {
  room : l.first + (l.count - l.number) * length l.packages ≡ l.base + l.count * length l.packages;
  units :
      map unit_text l.initial.units.items ++ target_units l.visits.on.now l.visits.built.now (map package_text l.packages) 0 l.base l.count
      ≡ map unit_text l.units.items ++ target_units l.visits.on.now l.visits.built.now (map package_text l.packages) l.number l.first (l.count - l.number);
}
