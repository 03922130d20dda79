use Rattle.std.proofs.Common.{◌≡◌, ◌++◌, flat_map, map, drop}
use Rattle.cargo_workspaces.specs.WorkspaceView.{workspace_text}
use Rattle.cargo_manifests.specs.inherited.InheritanceView.{inheritance_text}
use Rattle.cargo_manifests.specs.EditViews.{edit_text}
use Rattle.cargo_manifests.specs.Edits.{edits_at}
use Rattle.cargo_manifests.proofs.declaration_edits.edits_of.Given as goal

abbrev pub invariant-loop-package : goal.invariant-loop-package
invariant-loop-package l =
    let f = edits_at (inheritance_text l.inheritance) (workspace_text l.workspace).packages in
    flat_map f l.packages ≡ map edit_text l.edits.items ++ flat_map f (drop l.package-index l.packages)
