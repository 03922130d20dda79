-- The packages that are built, with their features.
use Rattle.std.specs.Prelude.{ℕ, ◌+◌, zero, suc, List, [], ◌∷◌, ◌++◌, map, Bool, true, filter, if◌then◌else◌, length}
use Rattle.plan_starts.specs.feature_labels.Names.LabelName.{base, named}
use Rattle.cargo_workspaces.specs.Workspaces.{Text, PackageText}
use Rattle.plan_rows.specs.Steps.{side_of}
use Rattle.plan_rows.specs.declared.side.Side.{Side}
use Rattle.plan_rows.specs.declared.side.Side.TheVariants as side
use Rattle.plan_starts.specs.Lists.{joined_from}
use Rattle.plan_starts.specs.PackageVisits.{PairVisit, is_on}
use Rattle.plan_starts.specs.step_visits.Visits.{Visit, reaches}
use Rattle.cargo_plans.specs.declared.plan_units.unit.Place.{Place}
use Rattle.cargo_plans.specs.declared.plan_units.unit.Place.TheVariants.{Host, Target}

-- A package that is built for a place, and the names of its features that are on there.
pub record UnitText : Type 0 where
  pub place : Place
  pub number : ℕ
  pub features : List Text

-- The features of package `p` that are on, on a side.
abbrev pub features_on : PairVisit → Side → ℕ → PackageText → List Text
features_on on side p x = map (λ f. f.name) (filter (λ f. is_on on side p (named f.name)) x.features)

-- What is built for a place, whose first entry is `first`, of the packages from `p` on.
abbrev pub units_from : PairVisit → Visit → Place → Side → ℕ → ℕ → List PackageText → List UnitText
units_from on built place side first p packages =
    joined_from (λ p x. if reaches built (first + p) base then record { place = place; number = p; features = features_on on side p x } ∷ [] else []) p packages

abbrev pub units_at : PairVisit → Visit → Place → Side → ℕ → List PackageText → List UnitText
units_at on built place side first packages = units_from on built place side first 0 packages

-- What is built for `targets` platforms, the first of which has number `k` and begins at entry `first`.
abbrev pub target_units : PairVisit → Visit → List PackageText → ℕ → ℕ → ℕ → List UnitText
target_units on built packages k first zero = []
target_units on built packages k first (suc targets) =
    units_at on built (Target k) side.Target first packages ++ target_units on built packages (k + 1) (first + length packages) targets

-- What is built for the host, then what is built for each of the target platforms.
abbrev pub units_of : Bool → PairVisit → Visit → List PackageText → ℕ → List UnitText
units_of split on built packages targets =
    units_at on built Host (side_of split true) 0 packages ++ target_units on built packages 0 (length packages) targets
