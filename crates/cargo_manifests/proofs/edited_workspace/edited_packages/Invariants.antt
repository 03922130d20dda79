use Rattle.std.proofs.Common.{◌≡◌, ◌++◌, map, drop}
use Rattle.cargo_workspaces.specs.Views.{package_text}
use Rattle.cargo_manifests.specs.inherited.InheritanceView.{inheritance_text}
use Rattle.cargo_manifests.specs.EditViews.{edit_text}
use Rattle.cargo_manifests.specs.Edits.{edited_package, numbered}
use Rattle.cargo_manifests.proofs.edited_workspace.edited_packages.Given as goal

abbrev pub invariant-loop-number : goal.invariant-loop-number
invariant-loop-number l =
    let change = edited_package (inheritance_text l.inheritance) (edit_text l.edit) in
    numbered change 0 (map package_text l.packages) ≡ map package_text l.edited.items ++ numbered change l.number (map package_text (drop l.number l.packages))
