use Rattle.std.proofs.Common.{◌≡◌, ◌+◌, ◌*◌, ◌≤◌, ◌++◌, length, map, drop}
use Rattle.guppy_packages.specs.Rows.{row_text}
use Rattle.cargo_workspaces.specs.Views.{package_text}
use Rattle.plan_rows.specs.SettingsView.{settings_text}
use Rattle.plan_rows.specs.Steps.{built_from}
use Rattle.plan_rows.specs.Tables.{flag_at, rows_from}
use Rattle.plan_rows.proofs.built_rows.push_targets.Given as goal

abbrev pub invariant-loop-platform : goal.invariant-loop-platform
invariant-loop-platform g l =
    let ps = map package_text l.packages in
    let entries = built_from ps (settings_text g.P.Platform.holds l.rules.settings.now) (g.T.TurnedOn.turned_on l.rules.turned_on.now) (flag_at l.rules.with_dev.now) in
    (map row_text l.initial.rows.items ++ rows_from l.base (entries l.base (map g.P.Platform.holds l.targets))
    ≡ map row_text l.rows.items ++ rows_from l.next (entries l.next (map g.P.Platform.holds (drop l.platform-index l.targets))))
    × (l.next + length (drop l.platform-index l.targets) * length l.packages ≤ l.ids)
