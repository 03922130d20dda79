use Rattle.std.proofs.Common.{◌≡◌, ◌++◌, map, drop}
use Rattle.cargo_workspaces.specs.Views.{declaration_text}
use Rattle.cargo_manifests.proofs.copies.copies_of_declarations.Given as goal

abbrev pub invariant-loop-declaration : goal.invariant-loop-declaration
invariant-loop-declaration l =
    map declaration_text l.declarations ≡ map declaration_text l.copies.items ++ map declaration_text (drop l.declaration-index l.declarations)
