-- What a plan builds, by package.
use Rattle.std.specs.Prelude.{ℕ, List, [], ◌∷◌, Bool, false, length, map, nat_eq, not}
use Rattle.std.specs.Cmp.Lexicographic.{pointwise}
use Rattle.std.specs.List.{filter, list_any}
use Rattle.std.specs.Str.{bytes_eq}
use Rattle.cargo_workspaces.specs.Workspaces.{Text}
use Rattle.cargo_plans.specs.plan_units.Units.{UnitText}
use Rattle.cargo_plans.specs.declared.plan_units.unit.Place.{Place}

-- A place, and the features that a package has there.
pub record PlacedText : Type 0 where
  pub place : Place
  pub features : List Text

abbrev pub placed : UnitText → PlacedText
placed u = record { place = u.place; features = u.features }

-- The places of package `p`, in the order of the plan.
abbrev pub places_of : List UnitText → ℕ → List PlacedText
places_of units p = map placed (filter (λ u. nat_eq p u.number) units)

abbrev pub is_built : List UnitText → ℕ → Bool
is_built units p = not (nat_eq (length (places_of units p)) 0)

-- Whether both lists have the same texts in the same order.
abbrev pub same_texts : List Text → List Text → Bool
same_texts = pointwise bytes_eq

-- Whether the lists of features aren't all the same: one of them isn't the first.
abbrev pub differ : List (List Text) → Bool
differ [] = false
differ (first ∷ more) = list_any (λ f. not (same_texts first f)) more
