-- Packages that are built in several places.
use Rattle.std.specs.Prelude.{ℕ, List, [], ◌∷◌, Bool, true, false, length, map, nat_lt, if◌then◌else◌}
use Rattle.cargo_workspaces.specs.Workspaces.{PackageText}
use Rattle.cargo_plans.specs.plan_starts.Lists.{joined_from}
use Rattle.cargo_plans.specs.plan_units.Units.{UnitText}
use Rattle.feats_duplicates.specs.Built.{PlacedText, differ, places_of}

-- A package, and its places with its features there.
pub record PlacesText : Type 0 where
  pub number : ℕ
  pub places : List PlacedText

-- Whether these places of a package are listed: its features differ there, or, with `all`, there are several places.
abbrev pub are_listed : Bool → List PlacedText → Bool
are_listed true places = nat_lt 1 (length places)
are_listed false places = differ (map (λ q. q.features) places)

-- Package `p` with its places, if these are listed.
abbrev pub places_if_listed : Bool → ℕ → List PlacedText → List PlacesText
places_if_listed all p places = if are_listed all places then record { number = p; places = places } ∷ [] else []

abbrev pub places_at : Bool → List UnitText → ℕ → List PlacesText
places_at all units p = places_if_listed all p (places_of units p)

-- The packages that are built with different features in different places, in the order of their numbers; with `all`, those that are built
-- in several places.
abbrev pub packages_in_places : Bool → List PackageText → List UnitText → List PlacesText
packages_in_places all packages units = joined_from (λ p x. places_at all units p) 0 packages
