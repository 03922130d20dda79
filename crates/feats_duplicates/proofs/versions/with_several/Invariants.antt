use Rattle.std.proofs.Common.{◌≡◌, ◌++◌, ℕ, List, length, map, filter}
use Rattle.cargo_workspaces.specs.Workspaces.{PackageText}
use Rattle.cargo_plans.specs.plan_units.Units.{UnitText}
use Rattle.feats_duplicates.specs.Versions.{version_of}
use Rattle.feats_duplicates.specs.Views.{versions_text}
use Rattle.feats_duplicates.specs.inner.Dependents.{HasDependents}
use Rattle.feats_duplicates.specs.inner.Groups.{entry_text, has_more}
use Rattle.feats_duplicates.proofs.versions.with_several.Given as goal

abbrev pub invariant-loop-name : goal.invariant-loop-name
invariant-loop-name l =
    (packages : List PackageText) (units : List UnitText) (links : List (ℕ × ℕ)) → HasDependents l.dependents (length packages) units links →
    map (entry_text (version_of packages units links)) (filter has_more l.names.entries)
    ≡ map versions_text l.list.items ++ map (entry_text (version_of packages units links)) (filter has_more l.name-iterator)
