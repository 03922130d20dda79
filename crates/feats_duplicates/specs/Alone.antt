-- Packages that get different features if each selected member is planned alone.
use Rattle.std.specs.Prelude.{ℕ, List, [], ◌∷◌, Bool, true, false, map, flat_map, nat_eq, if◌then◌else◌}
use Rattle.std.specs.List.{filter}
use Rattle.cargo_workspaces.specs.Workspaces.{Text, PackageText}
use Rattle.cargo_plans.specs.plan_starts.Lists.{joined_from}
use Rattle.cargo_plans.specs.plan_units.Units.{UnitText}
use Rattle.cargo_plans.specs.declared.plan_units.unit.Place.{Place}
use Rattle.cargo_plans.specs.declared.plan_units.unit.Place.TheVariants as place
use Rattle.feats_duplicates.specs.Built.{differ}
use Rattle.feats_duplicates.specs.MemberPlans.{MemberPlanText, OutcomeText, built, not_planned}

-- A package that is built for a place, in the plan of a member alone.
pub record MemberUnitText : Type 0 where
  pub member : ℕ
  pub unit : UnitText

abbrev pub built_by : ℕ → UnitText → MemberUnitText
built_by member u = record { member = member; unit = u }

abbrev pub units_of_outcome : ℕ → OutcomeText → List MemberUnitText
units_of_outcome member (built units) = map (built_by member) units
units_of_outcome member (not_planned message) = []

-- What the plan of a member builds.
abbrev pub units_of_plan : MemberPlanText → List MemberUnitText
units_of_plan p = units_of_outcome p.member p.outcome

abbrev pub same_place : Place → Place → Bool
same_place place.Host place.Host = true
same_place (place.Target k) (place.Target n) = nat_eq k n
same_place place.Host (place.Target n) = false
same_place (place.Target k) place.Host = false

-- The places of a build for the target platforms with these names.
abbrev pub all_places : List Text → List Place
all_places names = place.Host ∷ joined_from (λ k name. place.Target k ∷ []) 0 names

abbrev pub rows_of : List MemberUnitText → ℕ → List MemberUnitText
rows_of rows p = filter (λ r. nat_eq p r.unit.number) rows

abbrev pub rows_at : Place → List MemberUnitText → List MemberUnitText
rows_at place rows = filter (λ r. same_place place r.unit.place) rows

-- A package for a place, in the plan of each member that builds it there.
pub record AloneText : Type 0 where
  pub number : ℕ
  pub place : Place
  pub units : List MemberUnitText

-- Package `p` for a place, if the features of these rows differ.
abbrev pub alone_if_different : ℕ → Place → List MemberUnitText → List AloneText
alone_if_different p place rows = if differ (map (λ r. r.unit.features) rows) then record { number = p; place = place; units = rows } ∷ [] else []

-- Package `p`, which these rows build, for a place.
abbrev pub alone_at : ℕ → List MemberUnitText → Place → List AloneText
alone_at p rows place = alone_if_different p place (rows_at place rows)

abbrev pub alone_in : List Place → List MemberUnitText → ℕ → List AloneText
alone_in places rows p = flat_map (alone_at p (rows_of rows p)) places

abbrev pub alone_among : List PackageText → List Text → List MemberUnitText → List AloneText
alone_among packages names rows = joined_from (λ p x. alone_in (all_places names) rows p) 0 packages

-- The packages that get different features for one place in the plans, in the order of their numbers and then of the places.
abbrev pub alone_of : List PackageText → List Text → List MemberPlanText → List AloneText
alone_of packages names plans = alone_among packages names (flat_map units_of_plan plans)
