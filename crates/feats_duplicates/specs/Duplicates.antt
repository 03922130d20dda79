-- What is built several times.
use Rattle.std.specs.Prelude.{◌≡◌, ℕ, List, Bool}
use Rattle.cargo_workspaces.specs.Workspaces.{Text, PackageText}
use Rattle.cargo_plans.specs.plan_units.Units.{UnitText}
use Rattle.feats_duplicates.specs.Alone.{AloneText, alone_of}
use Rattle.feats_duplicates.specs.MemberPlans.{MemberPlanText}
use Rattle.feats_duplicates.specs.Places.{PlacesText, packages_in_places}
use Rattle.feats_duplicates.specs.Versions.{AreVersions, VersionsText}

pub record DuplicatesText : Type 0 where
  pub versions : List VersionsText
  pub places : List PlacesText
  pub alone : List AloneText

-- THE DUPLICATES of a plan with these units and the links between them, and of the plans of single members. With `all` they have the packages
-- with the same features in several places too.
pub record AreDuplicates (packages : List PackageText) (names : List Text) (all : Bool) (units : List UnitText) (links : List (ℕ × ℕ)) (plans : List MemberPlanText) (found : DuplicatesText) : Type 0 where
  pub are_versions : AreVersions packages units links found.versions
  pub are_places : found.places ≡ packages_in_places all packages units
  pub are_alone : found.alone ≡ alone_of packages names plans
