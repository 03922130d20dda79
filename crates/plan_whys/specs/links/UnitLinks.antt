-- Links between the packages that a plan builds.
use Rattle.std.specs.Prelude.{◌≡◌, ℕ, ◌+◌, ◌*◌, List, Bool, false, Some, Contains, map}
use Rattle.std.specs.Option.{option_map_or}
use Rattle.feature_labels.specs.Names.LabelName.{base}
use Rattle.guppy_packages.specs.Tables.{LinkTable}
use Rattle.cargo_plans.specs.plan_steps.Plans.{PlanText}
use Rattle.cargo_plans.specs.plan_units.Units.{UnitText}
use Rattle.cargo_plans.specs.declared.plan_units.unit.Place.{Place}
use Rattle.cargo_plans.specs.declared.plan_units.unit.Place.TheVariants.{Host, Target}
use Rattle.plan_starts.specs.step_visits.Visits.{is_start, node_at}
use Rattle.plan_whys.specs.links.Links.{ArePairsOf, index_of, indexes_of}

-- The first entry of a place, of `count` packages: the entries of the host are followed by those of each target platform.
abbrev pub first_entry : ℕ → Place → ℕ
first_entry count Host = 0
first_entry count (Target k) = k * count + count

-- The entry of a unit in step `built`.
abbrev pub entry_of : ℕ → UnitText → ℕ
entry_of count u = first_entry count u.place + u.number

-- The entries of the plan's units, in their order.
abbrev pub entries_of : PlanText → List ℕ
entries_of plan = map (entry_of plan.on.count) plan.units

-- Unit `from` DEPENDS ON unit `to`, by their numbers: the tables of step `built` have a link between their entries.
pub record DependsOn (plan : PlanText) (from to : ℕ) : Type 0 where
  pub link : LinkTable
  pub is_link : Contains plan.built.tables.links link
  pub leaves : index_of (entries_of plan) link.from ≡ Some from
  pub leads : index_of (entries_of plan) link.to ≡ Some to

-- THE LINKS between units: exactly the pairs of which the first depends on the second.
abbrev pub AreUnitLinks : PlanText → List (ℕ × ℕ) → Type 0
AreUnitLinks plan links = ArePairsOf (DependsOn plan) links

-- Whether step `built` starts at the unit.
abbrev pub is_root : PlanText → UnitText → Bool
is_root plan u = option_map_or (is_start plan.built.tables plan.starts) (node_at plan.built.tables (entry_of plan.on.count u) base) false

-- The numbers of these units.
abbrev pub root_units : PlanText → List ℕ
root_units plan = indexes_of (is_root plan) plan.units
