use Rattle.std.proofs.Common.{◌≡◌, ◌+◌, ◌++◌, length, map, drop}
use Rattle.guppy_packages.specs.Rows.{row_text}
use Rattle.cargo_workspaces.specs.Views.{package_text}
use Rattle.plan_rows.specs.SettingsView.{settings_text}
use Rattle.plan_rows.specs.Steps.{macros_of, on_entry, side_base}
use Rattle.plan_rows.specs.Tables.{each_from, rows_from}
use Rattle.plan_rows.proofs.on_rows.push_side.Given as goal

abbrev pub invariant-loop-ix : goal.invariant-loop-ix
invariant-loop-ix g l =
    let entry = on_entry (macros_of (map package_text l.packages)) (settings_text g.P.Platform.holds l.rules.settings.now) (g.K.Kept.kept l.rules.kept.now) l.side in
    let base = side_base (length l.packages) l.side in
    map row_text l.initial.rows.items ++ rows_from base (each_from entry 0 (map package_text l.packages))
    ≡ map row_text l.rows.items ++ rows_from (base + l.ix) (each_from entry l.ix (map package_text (drop l.ix l.packages)))
