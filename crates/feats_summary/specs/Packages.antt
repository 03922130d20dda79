-- The packages of a summary.
use Rattle.std.specs.Prelude.{ℕ, ◌==◌, ◌&&◌, List, [], ◌∷◌, Bool, not, true, codes, filter, map, slice_get, if◌then◌else◌}
use Rattle.std.specs.BTreeSet.{insert_key}
use Rattle.std.specs.List.{list_any}
use Rattle.std.specs.Option.{option_map_or}
use Rattle.std.specs.Str.{bytes_eq}
use Rattle.build_summaries.specs.Summaries as summaries
use Rattle.build_summaries.specs.Summaries.{SourceText, at_path, crates_io, external, workspace}
use Rattle.build_summaries.specs.declared.packages.Status.{Status}
use Rattle.build_summaries.specs.declared.packages.Status.TheVariants.{Initial, Workspace, Direct, Transitive}
use Rattle.cargo_plans.specs.declared.plan_units.unit.Place.{Place}
use Rattle.cargo_plans.specs.declared.plan_units.unit.Place.TheVariants as place
use Rattle.cargo_plans.specs.plan_starts.Lists.{joined_from}
use Rattle.cargo_plans.specs.plan_starts.PackageVisits.{PairVisit}
use Rattle.cargo_plans.specs.plan_steps.Plans.{turned_on}
use Rattle.cargo_plans.specs.plan_units.Units.{UnitText}
use Rattle.cargo_workspaces.specs.Workspaces.{DeclarationText, PackageText, Text, text_cmp}
use Rattle.feats_summary.specs.Places.{PlacesText, path_of}
use Rattle.plan_rows.specs.Steps.{side_of}
use Rattle.plan_rows.specs.declared.side.Side.{Side}
use Rattle.plan_rows.specs.declared.side.Side.TheVariants.{Target}

-- What the packages of a summary are made from: the packages of the workspace, the numbers of its members and of the selected packages, where
-- packages are, and what is on.
pub record KnownText : Type 0 where
  pub packages : List PackageText
  pub members : List ℕ
  pub selected : List ℕ
  pub places : PlacesText
  pub on : PairVisit
  pub split : Bool

abbrev pub is_among : List ℕ → ℕ → Bool
is_among numbers n = list_any (λ m. m == n) numbers

abbrev pub status_of : Bool → Bool → Bool → Status
status_of is_selected is_member is_direct =
    if is_selected then Initial
    else (if is_member then Workspace
    else (if is_direct then Direct else Transitive))

abbrev pub registry_source : Text → SourceText
registry_source source = if bytes_eq source (codes "registry+https://github.com/rust-lang/crates.io-index") then crates_io else external source

abbrev pub source_of : PlacesText → Bool → PackageText → SourceText
source_of places is_member x =
    if is_member then workspace (path_of places x.id) else option_map_or registry_source x.source (at_path (path_of places x.id))

-- `texts` and more of them, in the order of their bytes and once each.
abbrev pub sorted : List Text → List Text → List Text
sorted texts [] = texts
sorted texts (more ∷ rest) = sorted (insert_key text_cmp texts more) rest

-- Whether the optional dependency of package `p` is on, on a side.
abbrev pub is_optional_on : PairVisit → Side → ℕ → DeclarationText → Bool
is_optional_on on side p d = d.optional && turned_on on side p d.name

-- The names of the optional dependencies of package `p` that are on, on a side.
abbrev pub optional_on : PairVisit → Side → ℕ → List DeclarationText → List Text
optional_on on side p ds = sorted [] (map (λ d. d.name) (filter (is_optional_on on side p) ds))

-- The side whose features a package has in a place.
abbrev pub side_at : Bool → Place → Side
side_at split place.Host = side_of split true
side_at split (place.Target k) = Target

-- Package `x` of a unit. `is_direct` is whether a member depends on the unit.
unfoldable pub package_of : KnownText → Bool → UnitText → PackageText → summaries.PackageText
package_of known is_direct u x = record {
  name = x.name;
  version = x.version;
  source = source_of known.places (is_among known.members u.number) x;
  status = status_of (is_among known.selected u.number) (is_among known.members u.number) is_direct;
  features = u.features;
  optional_dependencies = optional_on known.on (side_at known.split u.place) u.number x.declarations;
}

abbrev pub package_at : KnownText → Bool → UnitText → List summaries.PackageText
package_at known is_direct u = option_map_or (λ x. package_of known is_direct u x ∷ []) (slice_get known.packages u.number) []

-- Whether the place is the host, or else whether it is a target.
abbrev pub is_in : Bool → Place → Bool
is_in at_host place.Host = at_host
is_in at_host (place.Target k) = not at_host

-- The packages for the host, or for the target. `direct k` is whether a member depends on unit `k`.
abbrev pub packages_by : KnownText → (ℕ → Bool) → Bool → List UnitText → List summaries.PackageText
packages_by known direct at_host units = joined_from (λ k u. if is_in at_host u.place then package_at known (direct k) u else []) 0 units
