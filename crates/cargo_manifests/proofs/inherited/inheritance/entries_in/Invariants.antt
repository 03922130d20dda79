use Rattle.std.proofs.Common.{◌≡◌, ◌++◌, map, drop}
use Rattle.cargo_workspaces.specs.Views.{declaration_text}
use Rattle.cargo_manifests.specs.inherited.Inheritances.{entries_in}
use Rattle.cargo_manifests.specs.inherited.InheritanceView.{entry_view}
use Rattle.cargo_manifests.proofs.inherited.inheritance.entries_in.Given as goal

abbrev pub invariant-loop-declaration : goal.invariant-loop-declaration
invariant-loop-declaration l =
    let m = entry_view l.manifest in
    entries_in m (map declaration_text l.declarations) ≡ map entry_view l.entries.items ++ entries_in m (map declaration_text (drop l.declaration-index l.declarations))
