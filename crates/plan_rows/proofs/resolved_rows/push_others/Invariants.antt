use Rattle.std.proofs.Common.{◌≡◌, ◌+◌, ◌++◌, map, drop}
use Rattle.guppy_packages.specs.Rows.{row_text}
use Rattle.cargo_workspaces.specs.Views.{package_text}
use Rattle.plan_rows.specs.Steps.{other_entry}
use Rattle.plan_rows.specs.Tables.{each_from, rows_from}
use Rattle.plan_rows.proofs.resolved_rows.push_others.Given as goal

abbrev pub invariant-loop-ix : goal.invariant-loop-ix
invariant-loop-ix l =
    map row_text l.initial.rows.items ++ rows_from 0 (each_from other_entry 0 (map package_text l.packages))
    ≡ map row_text l.rows.items ++ rows_from (0 + l.ix) (each_from other_entry l.ix (map package_text (drop l.ix l.packages)))
