use Rattle.std.proofs.Common.{◌≡◌, ◌++◌, map, drop}
use Rattle.cargo_workspaces.specs.Views.{declaration_text, texts}
use Rattle.cargo_workspaces.specs.Workspaces.{DeclarationText}
use Rattle.feats_unused.specs.Dead.{leading}
use Rattle.feats_unused.proofs.dead.reached.Given as goal

abbrev pub invariant-loop-declaration : goal.invariant-loop-declaration
invariant-loop-declaration l =
    let name = λ (d : DeclarationText). d.name in
    map name (leading (map declaration_text l.declarations)) ≡ texts l.names.items ++ map name (leading (map declaration_text (drop l.declaration-index l.declarations)))
