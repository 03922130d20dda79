-- Packages of one name, several of which are built.
use Rattle.std.specs.Prelude.{◌≡◌, ℕ, List, [], ◌∷◌, Bool, ◌&&◌, map, length, nat_lt, if◌then◌else◌}
use Rattle.std.specs.List.{list_any}
use Rattle.std.specs.List.Sorted.{IsStrictlySortedBy}
use Rattle.std.specs.Str.{bytes_eq}
use Rattle.cargo_workspaces.specs.Workspaces.{Text, PackageText, text_cmp}
use Rattle.cargo_plans.specs.plan_starts.Lists.{joined_from}
use Rattle.cargo_plans.specs.plan_units.Units.{UnitText}
use Rattle.feats_duplicates.specs.Built.{is_built}
use Rattle.feats_duplicates.specs.Dependents.{dependents_of}

-- A package that is built, and its dependents.
pub record VersionText : Type 0 where
  pub number : ℕ
  pub dependents : List ℕ

-- A name, and the packages with this name that are built.
pub record VersionsText : Type 0 where
  pub name : Text
  pub versions : List VersionText

-- The packages with this name that are built, in the order of their numbers.
abbrev pub built_with_name : List PackageText → List UnitText → Text → List ℕ
built_with_name packages units name = joined_from (λ p x. if is_built units p && bytes_eq name x.name then p ∷ [] else []) 0 packages

abbrev pub has_several : List PackageText → List UnitText → Text → Bool
has_several packages units name = nat_lt 1 (length (built_with_name packages units name))

abbrev pub version_of : List PackageText → List UnitText → List (ℕ × ℕ) → ℕ → VersionText
version_of packages units links p = record { number = p; dependents = dependents_of packages units links p }

-- The packages with this name that are built; the links are between units.
abbrev pub versions_with : List PackageText → List UnitText → List (ℕ × ℕ) → Text → VersionsText
versions_with packages units links name = record { name = name; versions = map (version_of packages units links) (built_with_name packages units name) }

-- These are the names of which several packages are built, in the order of their bytes, with these packages.
pub record AreVersions (packages : List PackageText) (units : List UnitText) (links : List (ℕ × ℕ)) (list : List VersionsText) : Type 0 where
  pub names : List Text
  pub ascending : IsStrictlySortedBy text_cmp names
  pub have_several : (name : Text) → list_any (bytes_eq name) names ≡ has_several packages units name
  pub are_listed : list ≡ map (versions_with packages units links) names
