-- The duplicates of a plan, as they are shown: a line for each package.
use Rattle.std.specs.Prelude.{ℕ, List, [], ◌∷◌, ◌++◌, Bool, map, flat_map, slice_get, unwrap_or, codes, if◌then◌else◌}
use Rattle.std.specs.Option.{option_map_or}
use Rattle.cargo_workspaces.specs.Workspaces.{Text, PackageText}
use Rattle.feats_duplicates.specs.cargo_plans.declared.plan_units.unit.Place.{Place}
use Rattle.feats_duplicates.specs.cargo_plans.declared.plan_units.unit.Place.TheVariants as place
use Rattle.feats_duplicates.specs.Alone.{AloneText, MemberUnitText}
use Rattle.feats_duplicates.specs.Built.{PlacedText}
use Rattle.feats_duplicates.specs.Duplicates.{DuplicatesText}
use Rattle.feats_duplicates.specs.MemberPlans.{MemberPlanText, OutcomeText, built, not_planned}
use Rattle.feats_duplicates.specs.Places.{PlacesText}
use Rattle.feats_duplicates.specs.Versions.{VersionText, VersionsText}
use Rattle.feats_duplicates.specs.Disagreements.{DisagreementText, is_agreed}
use Rattle.feats_duplicates.specs.Features.{is_from_default_registry, joined_features}

-- A line: one of several versions of a package, and the packages that depend on it; a package in one of several places, with its features
-- there; a package for a place in the plan of a member alone, with its features; its features in all these plans together, and whether the
-- members agree once they have got a line with these; a member without a plan, and why.
pub data ShownText : Type 0 where
  version : PackageText → List PackageText → ShownText
  in_place : PackageText → Text → List Text → ShownText
  alone : PackageText → Text → PackageText → List Text → ShownText
  joined : PackageText → Text → List Text → Bool → ShownText
  refused : PackageText → Text → ShownText

abbrev pub kind_of : ShownText → Text
kind_of (version p dependents) = codes "versions"
kind_of (in_place p place features) = codes "places"
kind_of (alone p place member features) = codes "alone"
kind_of (joined p place features agrees) = codes "join"
kind_of (refused p message) = codes "refused"

abbrev pub package_of : ShownText → PackageText
package_of (version p dependents) = p
package_of (in_place p place features) = p
package_of (alone p place member features) = p
package_of (joined p place features agrees) = p
package_of (refused p message) = p

-- The name of a place: those of the target platforms are given.
abbrev pub place_name : List Text → Place → Text
place_name names place.Host = codes "host"
place_name names (place.Target k) = unwrap_or (slice_get names k) []

-- The items that `said` returns for the package with this number; none if there is no such package.
abbrev pub about : {X : Type 0} → List PackageText → (PackageText → List X) → ℕ → List X
about packages said p = option_map_or said (slice_get packages p) []

-- The packages with these numbers.
abbrev pub packages_at : List PackageText → List ℕ → List PackageText
packages_at packages numbers = flat_map (about packages (λ x. x ∷ [])) numbers

abbrev pub version_at : List PackageText → VersionText → List ShownText
version_at packages v = about packages (λ x. version x (packages_at packages v.dependents) ∷ []) v.number

abbrev pub versions_of : List PackageText → VersionsText → List ShownText
versions_of packages v = flat_map (version_at packages) v.versions

abbrev pub placed_as : List Text → PackageText → PlacedText → ShownText
placed_as names x q = in_place x (place_name names q.place) q.features

abbrev pub places_at : List Text → List PackageText → ℕ → List PlacedText → List ShownText
places_at names packages p places = about packages (λ x. map (placed_as names x) places) p

abbrev pub places_of : List Text → List PackageText → PlacesText → List ShownText
places_of names packages p = places_at names packages p.number p.places

-- Package `x` in the plan of a member.
abbrev pub row_at : List PackageText → Text → PackageText → MemberUnitText → List ShownText
row_at packages place x r = about packages (λ m. alone x place m r.unit.features ∷ []) r.member

-- Only a package of the registry that manifests name by default has a line.
abbrev pub joined_at : Text → PackageText → List MemberUnitText → Bool → List ShownText
joined_at place x rows agrees = if is_from_default_registry x then joined x place (joined_features x rows) agrees ∷ [] else []

abbrev pub alone_lines : List PackageText → Text → List MemberUnitText → Bool → PackageText → List ShownText
alone_lines packages place rows agrees x = flat_map (row_at packages place x) rows ++ joined_at place x rows agrees

abbrev pub alone_of : List Text → List PackageText → List DisagreementText → AloneText → List ShownText
alone_of names packages disagreements a = about packages (alone_lines packages (place_name names a.place) a.units (is_agreed disagreements a)) a.number

abbrev pub refused_at : List PackageText → ℕ → Text → List ShownText
refused_at packages m message = about packages (λ x. refused x message ∷ []) m

abbrev pub refusal_at : List PackageText → ℕ → OutcomeText → List ShownText
refusal_at packages m (built units) = []
refusal_at packages m (not_planned message) = refused_at packages m message

abbrev pub refusal_of : List PackageText → MemberPlanText → List ShownText
refusal_of packages p = refusal_at packages p.member p.outcome

-- ALL LINES: versions, places, what single members get, and members without a plan. The members disagree about these packages even
-- after they have got lines for them.
abbrev pub all_shown : List Text → List PackageText → DuplicatesText → List DisagreementText → List MemberPlanText → List ShownText
all_shown names packages found disagreements plans =
    flat_map (versions_of packages) found.versions
    ++ (flat_map (places_of names packages) found.places
    ++ (flat_map (alone_of names packages disagreements) found.alone
    ++ flat_map (refusal_of packages) plans))
