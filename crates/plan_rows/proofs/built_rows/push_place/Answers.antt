use Rattle.std.proofs.Common.{◌≡◌, ◌∙◌, ◌+◌, ◌++◌, ap, Bool, get_or, length, List, map, ℕ}
use Rattle.std.specs.List.{list_all}
use Rattle.std.proofs.lemmas.List.{length-map}
use Rattle.guppy_packages.specs.Rows.{row_text}
use Rattle.cargo_workspaces.specs.Views.{package_text}
use Rattle.cargo_workspaces.specs.Workspaces.{DeclarationText, IsPackage, is_proc_macro, is_within}
use Rattle.cargo_workspaces.specs.declared.package.Package.{Package}
use Rattle.plan_rows.specs.SettingsView.{settings_text}
use Rattle.plan_rows.specs.Steps.{built_entry, macros_of}
use Rattle.plan_rows.specs.Tables.{each_from, entry_rows, flag_at, rows_from}
use Rattle.plan_rows.proofs.Lists.{all_place}
use Rattle.plan_rows.proofs.EntryLemmas.{entries_step}
use Rattle.plan_rows.proofs.built_rows.push_place.Goals as goal

pub push_entry-requires-clause-within : goal.push_entry-requires-clause-within
push_entry-requires-clause-within g c =
    let ps = c.args.packages.now in
    let item = c.index-packages-ix.result in
    let long : length c.args.rules.now.macros.now ≡ length ps = ap length c.requires.macros ∙ length-map (map package_text ps) is_proc_macro ∙ length-map ps package_text in
    let here = all_place package_text (IsPackage (length ps)) ps c.loop-ix.ix item c.requires.packages c.loop-ix-test.true in
    ap (λ (n : ℕ). list_all (λ (d : DeclarationText). is_within n d.leads_to) (package_text item).declarations) long
    ∙ ap (λ (x : Package). list_all (λ (d : DeclarationText). is_within (length ps) d.leads_to) (package_text x).declarations) c.index-packages-ix.is
    ∙ here.2

pub loop-ix-preserved : goal.loop-ix-preserved
loop-ix-preserved g c =
    let ps = c.args.packages.now in
    let given = c.args.rules.now in
    let place = c.args.place.now in
    let ix = c.loop-ix.ix in
    let item = c.index-packages-ix.result in
    let settings = settings_text g.P.Platform.holds given.settings.now in
    let turned_on = g.T.TurnedOn.turned_on given.turned_on.now place.side in
    let with_dev = flag_at given.with_dev.now in
    let holds = g.P.Platform.holds place.platform.now in
    let entry = built_entry (macros_of (map package_text ps)) settings turned_on with_dev place.base holds in
    let r0 = map row_text c.loop-ix.rows.items in
    let r1 = map row_text c.push_entry.new.rows.items in
    let pushed : r1 ≡ r0 ++ entry_rows (place.base + ix) (entry ix (package_text (get_or ps ix item))) =
    c.in_ok-push_entry.ensures
    ∙ ap (λ (m : List Bool). r0 ++ entry_rows (place.base + ix) (built_entry m settings turned_on with_dev place.base holds ix (package_text item))) c.requires.macros
    ∙ ap (λ (x : Package). r0 ++ entry_rows (place.base + ix) (entry ix (package_text x))) c.index-packages-ix.is in
    entries_step package_text entry place.base ix ps item (map row_text c.args.rows.now.items ++ rows_from place.base (each_from entry 0 (map package_text ps))) r0 r1 c.loop-ix-test.true c.loop-ix.invariant pushed
