-- The values that units contain.
use Rattle.std.specs.Prelude.{List, map}
use Rattle.cargo_workspaces.specs.Views.{texts}
use Rattle.cargo_plans.specs.plan_units.Units.{UnitText}
use Rattle.cargo_plans.specs.declared.plan_units.unit.Unit.{Unit}

abbrev pub unit_text : Unit → UnitText
unit_text u = record { place = u.place; number = u.«package»; features = texts u.features.items }
