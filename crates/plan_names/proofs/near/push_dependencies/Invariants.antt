use Rattle.std.proofs.Common.{◌≡◌, true, List, Some, map}
use Rattle.std.specs.Prelude.{slice_get}
use Rattle.std.specs.List.{list_all}
use Rattle.cargo_workspaces.specs.Views.{package_text}
use Rattle.cargo_workspaces.specs.Workspaces.{PackageText}
use Rattle.plan_names.specs.Suggestions.{is_part}
use Rattle.plan_names.specs.inner.Nears.{near_text}
use Rattle.plan_names.proofs.near.push_dependencies.Given as goal

abbrev pub invariant-loop-declaration : goal.invariant-loop-declaration
invariant-loop-declaration l =
    (packages : List PackageText) → slice_get packages l.ix ≡ Some (package_text l.«package»)
    → list_all (is_part packages) (map near_text l.initial.near.items) ≡ true → list_all (is_part packages) (map near_text l.near.items) ≡ true
