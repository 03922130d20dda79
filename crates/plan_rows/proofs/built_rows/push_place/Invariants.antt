use Rattle.std.proofs.Common.{◌≡◌, ◌+◌, ◌++◌, map, drop}
use Rattle.guppy_packages.specs.Rows.{row_text}
use Rattle.cargo_workspaces.specs.Views.{package_text}
use Rattle.plan_rows.specs.SettingsView.{settings_text}
use Rattle.plan_rows.specs.Steps.{macros_of, built_entry}
use Rattle.plan_rows.specs.Tables.{each_from, flag_at, rows_from}
use Rattle.plan_rows.proofs.built_rows.push_place.Given as goal

abbrev pub invariant-loop-ix : goal.invariant-loop-ix
invariant-loop-ix g l =
    let entry = built_entry (macros_of (map package_text l.packages)) (settings_text g.P.Platform.holds l.rules.settings.now) (g.T.TurnedOn.turned_on l.rules.turned_on.now l.place.side) (flag_at l.rules.with_dev.now) l.place.base (g.P.Platform.holds l.place.platform.now) in
    map row_text l.initial.rows.items ++ rows_from l.place.base (each_from entry 0 (map package_text l.packages))
    ≡ map row_text l.rows.items ++ rows_from (l.place.base + l.ix) (each_from entry l.ix (map package_text (drop l.ix l.packages)))
