use Rattle.std.proofs.Common.{◌≡◌, ◌++◌, map, drop}
use Rattle.cargo_workspaces.specs.Views.{package_text}
use Rattle.cargo_workspaces.specs.WorkspaceView.{workspace_text}
use Rattle.toml.specs.View.{view}
use Rattle.cargo_manifests.specs.inherited.Inheritances.{entries_from}
use Rattle.cargo_manifests.specs.inherited.InheritanceView.{entry_view}
use Rattle.cargo_manifests.proofs.inherited.inheritance.entries_of_packages.Given as goal

abbrev pub invariant-loop-number : goal.invariant-loop-number
invariant-loop-number l =
    let w = workspace_text l.workspace in
    let ms = map view l.manifests in
    entries_from w ms 0 (map package_text l.packages)
    ≡ map (λ entries. map entry_view entries.items) l.all.items ++ entries_from w ms l.number (map package_text (drop l.number l.packages))
