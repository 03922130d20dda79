use Rattle.std.proofs.Common.{◌≡◌, ◌+◌, ◌++◌, length, map, drop, ℕ}
use Rattle.guppy_packages.specs.Rows.{row_text}
use Rattle.cargo_workspaces.specs.Views.{package_text}
use Rattle.cargo_workspaces.specs.Workspaces.{PackageText}
use Rattle.plan_rows.specs.Commands.{command_of, command_texts}
use Rattle.plan_rows.specs.Steps.{started_entry}
use Rattle.plan_rows.specs.Tables.{each_from, rows_from}
use Rattle.plan_rows.proofs.resolved_rows.push_starts.Given as goal

abbrev pub invariant-loop-ix : goal.invariant-loop-ix
invariant-loop-ix l =
    let entry = λ (p : ℕ) (x : PackageText). started_entry (command_of (command_texts l.commands) p) x in
    map row_text l.initial.rows.items ++ rows_from (length l.packages) (each_from entry 0 (map package_text l.packages))
    ≡ map row_text l.rows.items ++ rows_from (length l.packages + l.ix) (each_from entry l.ix (map package_text (drop l.ix l.packages)))
