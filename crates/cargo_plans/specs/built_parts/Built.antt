-- Which parts of packages a plan builds. A part is built on a side if it is on there, and its package is built in a place of that side.
use Rattle.std.specs.Prelude.{ℕ, List, Bool, true, false, ◌&&◌, nat_eq}
use Rattle.std.specs.List.{list_any}
use Rattle.feature_labels.specs.Names.{LabelName}
use Rattle.cargo_plans.specs.plan_steps.Plans.{PlanText}
use Rattle.plan_rows.specs.Steps.{side_of}
use Rattle.plan_rows.specs.declared.side.Side.{Side}
use Rattle.plan_rows.specs.declared.side.Side.TheVariants.{Target, Host}
use Rattle.plan_starts.specs.PackageVisits.{is_on}
use Rattle.cargo_plans.specs.plan_units.Units.{UnitText}
use Rattle.cargo_plans.specs.declared.plan_units.unit.Place.{Place}
use Rattle.cargo_plans.specs.declared.plan_units.unit.Place.TheVariants as place
use Rattle.cargo_plans.specs.declared.built_parts.state.PartState.{PartState}
use Rattle.cargo_plans.specs.declared.built_parts.state.PartState.TheVariants.{Off, Unbuilt, Built}

-- The side whose features a place has: those of the host, if the resolver tells sides apart, and else those of target platforms.
abbrev pub side_at : Bool → Place → Side
side_at split place.Host = side_of split true
side_at split (place.Target k) = Target

abbrev pub is_same_side : Side → Side → Bool
is_same_side Target Target = true
is_same_side Target Host = false
is_same_side Host Target = false
is_same_side Host Host = true

-- Whether one of the packages that are built is package `p`, in a place of the side.
abbrev pub is_built : Bool → List UnitText → Side → ℕ → Bool
is_built split units side p = list_any (λ u. is_same_side (side_at split u.place) side && nat_eq u.number p) units

-- Whether a part of package `p` is built on a side.
abbrev pub is_part_built : Bool → PlanText → Side → ℕ → LabelName → Bool
is_part_built split plan side p label = is_on plan.on side p label && is_built split plan.units side p

-- The state of a part, if it is on or not, and if its package is built or not.
abbrev pub state_if : Bool → Bool → PartState
state_if false built = Off
state_if true false = Unbuilt
state_if true true = Built

-- THE STATE of a part of package `p` on a side.
abbrev pub state_of : Bool → PlanText → Side → ℕ → LabelName → PartState
state_of split plan side p label = state_if (is_on plan.on side p label) (is_built split plan.units side p)
