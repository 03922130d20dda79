use Rattle.std.proofs.Common.{◌≡◌, ◌++◌, ℕ, map, drop}
use Rattle.cargo_workspaces.specs.Views.{package_text}
use Rattle.cargo_workspaces.specs.Workspaces.{PackageText}
use Rattle.cargo_plans.specs.plan_starts.Lists.{joined_from}
use Rattle.cargo_plans.specs.plan_units.UnitViews.{unit_text}
use Rattle.feats_duplicates.specs.Places.{packages_in_places, places_at}
use Rattle.feats_duplicates.specs.Views.{places_text}
use Rattle.feats_duplicates.proofs.places.places_of.Given as goal

abbrev pub invariant-loop-ix : goal.invariant-loop-ix
invariant-loop-ix l =
    packages_in_places l.all (map package_text l.packages) (map unit_text l.units)
    ≡ map places_text l.list.items ++ joined_from (λ (p : ℕ) (x : PackageText). places_at l.all (map unit_text l.units) p) l.ix (map package_text (drop l.ix l.packages))
