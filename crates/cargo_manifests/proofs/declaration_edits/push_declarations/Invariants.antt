use Rattle.std.proofs.Common.{◌≡◌, ◌++◌, map, drop}
use Rattle.cargo_workspaces.specs.Views.{declaration_text}
use Rattle.cargo_manifests.specs.inherited.InheritanceView.{inheritance_text}
use Rattle.cargo_manifests.specs.EditViews.{edit_text}
use Rattle.cargo_manifests.specs.Edits.{edits_from}
use Rattle.cargo_manifests.proofs.declaration_edits.push_declarations.Given as goal

abbrev pub invariant-loop-number : goal.invariant-loop-number
invariant-loop-number l =
    let i = inheritance_text l.inheritance in
    map edit_text l.initial.edits.items ++ edits_from i l.«package» 0 (map declaration_text l.declarations)
    ≡ map edit_text l.edits.items ++ edits_from i l.«package» l.number (map declaration_text (drop l.number l.declarations))
