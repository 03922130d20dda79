use Rattle.std.proofs.Common.{◌≡◌, ◌++◌, map, drop}
use Rattle.guppy_packages.specs.Rows.{row_text}
use Rattle.cargo_workspaces.specs.Views.{declaration_text}
use Rattle.plan_rows.specs.Tables.{dependency_row}
use Rattle.plan_rows.specs.inner.Leads.{dependencies_at}
use Rattle.plan_rows.proofs.pushing.push_dependencies.Given as goal

abbrev pub invariant-loop-ix : goal.invariant-loop-ix
invariant-loop-ix l =
    map row_text l.initial.rows.items ++ map dependency_row (dependencies_at l.plain (map declaration_text l.declarations) l.leads)
    ≡ map row_text l.rows.items ++ map dependency_row (dependencies_at l.plain (map declaration_text (drop l.ix l.declarations)) (drop l.ix l.leads))
