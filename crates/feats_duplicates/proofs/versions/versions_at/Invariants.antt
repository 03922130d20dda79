use Rattle.std.proofs.Common.{◌≡◌, ◌++◌, ℕ, List, drop, length, map}
use Rattle.cargo_workspaces.specs.Workspaces.{PackageText}
use Rattle.cargo_plans.specs.plan_units.Units.{UnitText}
use Rattle.feats_duplicates.specs.Versions.{version_of}
use Rattle.feats_duplicates.specs.Views.{version_text}
use Rattle.feats_duplicates.specs.inner.Dependents.{HasDependents}
use Rattle.feats_duplicates.proofs.versions.versions_at.Given as goal

abbrev pub invariant-loop-number : goal.invariant-loop-number
invariant-loop-number l =
    (packages : List PackageText) (units : List UnitText) (links : List (ℕ × ℕ)) → HasDependents l.dependents (length packages) units links →
    map (version_of packages units links) l.numbers ≡ map version_text l.list.items ++ map (version_of packages units links) (drop l.number-index l.numbers)
