use Rattle.std.proofs.Common.{◌≡◌, ◌++◌, map, drop}
use Rattle.cargo_workspaces.specs.Views.{declaration_text}
use Rattle.cargo_manifests.specs.inherited.InheritanceView.{inheritance_text}
use Rattle.cargo_manifests.specs.EditViews.{edit_text}
use Rattle.cargo_manifests.specs.Edits.{declaration_after, numbered}
use Rattle.cargo_manifests.proofs.edited_workspace.edited_declarations.Given as goal

abbrev pub invariant-loop-number : goal.invariant-loop-number
invariant-loop-number l =
    let change = declaration_after (inheritance_text l.inheritance) (edit_text l.edit) l.«package» in
    numbered change 0 (map declaration_text l.declarations) ≡ map declaration_text l.edited.items ++ numbered change l.number (map declaration_text (drop l.number l.declarations))
