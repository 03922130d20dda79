-- The packages that depend on a package.
use Rattle.std.specs.Prelude.{ℕ, List, [], ◌∷◌, Bool, false, ◌&&◌, nat_eq, not, Option, option_map, slice_get, if◌then◌else◌}
use Rattle.std.specs.List.{list_any}
use Rattle.std.specs.Option.{option_map_or}
use Rattle.cargo_workspaces.specs.Workspaces.{PackageText}
use Rattle.cargo_plans.specs.plan_units.Units.{UnitText}
use Rattle.cargo_plans.specs.plan_starts.Lists.{joined_from}

-- The package of a unit, if there is one with this number.
abbrev pub package_of : List UnitText → ℕ → Option ℕ
package_of units k = option_map (λ u. u.number) (slice_get units k)

abbrev pub is_number : ℕ → Option ℕ → Bool
is_number p found = option_map_or (nat_eq p) found false

-- Whether the link leads from a unit of package `q` to a unit of package `p`.
abbrev pub leads : List UnitText → ℕ → ℕ → ℕ × ℕ → Bool
leads units p q link = is_number q (package_of units link.0) && is_number p (package_of units link.1)

-- Whether package `q` is another than `p`, and one of its units depends on a unit of `p`. The links are between units.
abbrev pub depends_on : List UnitText → List (ℕ × ℕ) → ℕ → ℕ → Bool
depends_on units links p q = not (nat_eq q p) && list_any (leads units p q) links

-- THE DEPENDENTS of package `p`, in the order of their numbers.
abbrev pub dependents_of : List PackageText → List UnitText → List (ℕ × ℕ) → ℕ → List ℕ
dependents_of packages units links p = joined_from (λ q x. if depends_on units links p q then q ∷ [] else []) 0 packages
