use Rattle.std.proofs.Common.{◌≡◌, map, drop}
use Rattle.std.specs.List.{list_any}
use Rattle.cargo_workspaces.specs.Views.{declaration_text}
use Rattle.cargo_workspaces.specs.Workspaces.{DeclarationText}
use Rattle.plan_rows.specs.Steps.{is_development}
use Rattle.plan_starts.proofs.tests_of.any_development.Given as goal

abbrev pub invariant-loop-declaration : goal.invariant-loop-declaration
invariant-loop-declaration l =
    let test = λ (d : DeclarationText). is_development d.kind in
    list_any test (map declaration_text l.declarations) ≡ list_any test (map declaration_text (drop l.declaration-index l.declarations))
