use Rattle.std.proofs.Common.{◌≡◌, ◌∙◌, length, map, true, rules}
use Rattle.std.proofs.lemmas.List.{length-map}
use Rattle.guppy_packages.specs.Rows.{row_text}
use Rattle.cargo_workspaces.specs.Views.{package_text}
use Rattle.plan_rows.specs.SettingsView.{settings_text}
use Rattle.plan_rows.specs.Steps.{built_entry, built_from, macros_of, side_of}
use Rattle.plan_rows.specs.Tables.{each_from, flag_at}
use Rattle.plan_rows.proofs.Lists.{on_ok}
use Rattle.plan_rows.proofs.EntryLemmas.{entries_then, length-each_from}
use Rattle.plan_rows.proofs.built_rows.push_places.Goals as goal

pub returns : goal.returns
returns g c =
    let ps = map package_text c.args.packages.now in
    let told = c.args.rules.now in
    let settings = settings_text g.P.Platform.holds told.settings.now in
    let turned_on = g.T.TurnedOn.turned_on told.turned_on.now in
    let with_dev = flag_at told.with_dev.now in
    let entry = built_entry (macros_of ps) settings (turned_on (side_of told.settings.now.split true)) with_dev 0 (g.P.Platform.holds told.settings.now.host.now) in
    let long : length (each_from entry 0 ps) ≡ length c.args.packages.now = length-each_from entry 0 ps ∙ length-map c.args.packages.now package_text in
    on_ok c.push_targets.result c.push_targets.ensures
    (λ e. entries_then (length c.args.packages.now) (each_from entry 0 ps) (built_from ps settings turned_on with_dev (length c.args.packages.now) (map g.P.Platform.holds told.settings.now.targets.now)) (map row_text c.args.rows.now.items) (map row_text c.push_place.new.rows.items) (map row_text c.push_targets.new.rows.items) long (search rules) e)
