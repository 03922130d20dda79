use Rattle.std.proofs.Common.{◌≡◌, ◌++◌, map, drop, false}
use Rattle.guppy_packages.specs.Rows.{row_text}
use Rattle.cargo_workspaces.specs.Views.{declaration_text}
use Rattle.plan_rows.specs.Steps.{dependencies_by, resolved_lead}
use Rattle.plan_rows.specs.Tables.{dependency_row}
use Rattle.plan_rows.proofs.resolved_rows.push_resolved.Given as goal

abbrev pub invariant-loop-declaration : goal.invariant-loop-declaration
invariant-loop-declaration l =
    map row_text l.initial.rows.items ++ map dependency_row (dependencies_by false (resolved_lead l.started) (map declaration_text l.declarations))
    ≡ map row_text l.rows.items ++ map dependency_row (dependencies_by false (resolved_lead l.started) (map declaration_text (drop l.declaration-index l.declarations)))
