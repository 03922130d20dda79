use Rattle.std.proofs.Common.{◌≡◌, ◌∙◌, length, map}
use Rattle.std.proofs.lemmas.List.{length-map}
use Rattle.guppy_packages.specs.Rows.{row_text}
use Rattle.cargo_workspaces.specs.Views.{package_text}
use Rattle.plan_rows.specs.SettingsView.{settings_text}
use Rattle.plan_rows.specs.Steps.{host_entries, macros_of, on_entry}
use Rattle.plan_rows.specs.Tables.{each_from}
use Rattle.plan_rows.specs.declared.side.Side.TheVariants.{Target}
use Rattle.plan_rows.proofs.Lists.{on_ok}
use Rattle.plan_rows.proofs.EntryLemmas.{entries_then, length-each_from}
use Rattle.plan_rows.proofs.on_rows.push_sides.Goals as goal

pub returns : goal.returns
returns g c =
    let ps = map package_text c.args.packages.now in
    let settings = settings_text g.P.Platform.holds c.args.rules.now.settings.now in
    let kept = g.K.Kept.kept c.args.rules.now.kept.now in
    let entry = on_entry (macros_of ps) settings kept Target in
    let long : length (each_from entry 0 ps) ≡ length c.args.packages.now = length-each_from entry 0 ps ∙ length-map c.args.packages.now package_text in
    on_ok c.push_host.result c.push_host.ensures
    (λ e. entries_then (length c.args.packages.now) (each_from entry 0 ps) (host_entries ps settings kept) (map row_text c.args.rows.now.items) (map row_text c.push_side.new.rows.items) (map row_text c.push_host.new.rows.items) long c.in_ok-push_side.ensures e)
