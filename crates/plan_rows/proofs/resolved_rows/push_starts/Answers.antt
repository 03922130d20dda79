use Rattle.std.proofs.Common.{◌≡◌, ◌∙◌, ◌+◌, ◌≤◌, ◌++◌, ap, ap₂, arith, get_or, Global, length, List, map, option_map, sym, Vec, ℕ}
use Rattle.std.specs.Borrow.{Bor}
use Rattle.std.specs.Prelude.{slice_get}
use Rattle.std.specs.List.{list_all}
use Rattle.guppy_packages.specs.Rows.{row_text}
use Rattle.cargo_workspaces.specs.Views.{package_text}
use Rattle.cargo_workspaces.specs.Workspaces.{DeclarationText, IsPackage, is_within, PackageText}
use Rattle.cargo_workspaces.specs.declared.package.Package.{Package}
use Rattle.plan_rows.specs.Commands.{command_of, command_texts}
use Rattle.plan_rows.specs.Gates.{gated_text}
use Rattle.plan_rows.specs.Steps.{gated_feature, started_entry}
use Rattle.plan_rows.specs.Tables.{each_from, entry_rows, rows_from}
use Rattle.plan_rows.specs.inner.Starts.{start}
use Rattle.plan_rows.specs.declared.gated_features.GatedFeature.{GatedFeature}
use Rattle.plan_rows.proofs.EntryLemmas.{declarations_within, entries_step}
use Rattle.plan_rows.proofs.GateLemmas.{got_view, same_at, start-is}
use Rattle.plan_rows.proofs.Lists.{all_place}
use Rattle.plan_rows.proofs.resolved_rows.push_starts.Goals as goal

pub push_start-requires-clause-within : goal.push_start-requires-clause-within
push_start-requires-clause-within c =
    let ps = c.args.packages.now in
    let item = c.index-packages-ix.result in
    let here = all_place package_text (IsPackage (length ps)) ps c.loop-ix.ix item c.requires.packages c.loop-ix-test.true in
    let few : length ps ≤ c.args.ids.now = omega arith in
    declarations_within (length ps) c.args.ids.now (package_text item).declarations few
    (ap (λ (x : Package). list_all (λ (d : DeclarationText). is_within (length ps) d.leads_to) (package_text x).declarations) c.index-packages-ix.is ∙ here.2)

pub loop-ix-preserved : goal.loop-ix-preserved
loop-ix-preserved c =
    let ps = c.args.packages.now in
    let ix = c.loop-ix.ix in
    let item = c.index-packages-ix.result in
    let gated = c.args.gated.now in
    let commands = command_texts c.args.commands.now in
    let x = package_text item in
    let r0 = map row_text c.loop-ix.rows.items in
    let r1 = map row_text c.push_start.new.rows.items in
    let view = λ (v : Vec GatedFeature Global). map gated_text v.items in
    let lent = λ (v : Bor (Vec GatedFeature Global)). v.now in
    let wanted = λ (p : PackageText). map gated_feature p.features in
    let entry = λ (p : ℕ) (y : PackageText). started_entry (command_of commands p) y in
    let fs = map gated_text c.deref-in-loop-ix.result.now in
    let at = same_at view wanted package_text gated.packages.items ps ix c.index.result.now item c.requires.gated.0 c.loop-ix-test.true in
    let features : fs ≡ wanted x = ap (map gated_text) c.deref-in-loop-ix.ensures.value ∙ ap view c.index.ensures ∙ at ∙ ap (λ (y : Package). wanted (package_text y)) (sym c.index-packages-ix.is) in
    let command = got_view view lent c.deref.result.now ix c.get-command.result c.get-command.ensures.lookup.3 c.get-command.ensures.lookup.1 ∙ ap (λ (z : List (Vec GatedFeature Global)). option_map view (slice_get z ix)) c.deref.ensures.value in
    let same : start c.has_command-started.result fs (option_map (λ (v : Bor (Vec GatedFeature Global)). map gated_text v.now.items) c.get-command.result) x ≡ entry ix x =
    ap₂ (λ b o. start b fs o x) c.has_command-started.ensures command ∙ start-is view gated.commands.items commands ix x fs c.requires.gated.1 features in
    let pushed : r1 ≡ r0 ++ entry_rows (length ps + ix) (entry ix (package_text (get_or ps ix item))) =
    c.in_ok-push_start.ensures ∙ ap (λ e. r0 ++ entry_rows (length ps + ix) e) same ∙ ap (λ (y : Package). r0 ++ entry_rows (length ps + ix) (entry ix (package_text y))) c.index-packages-ix.is in
    entries_step package_text entry (length ps) ix ps item (map row_text c.args.rows.now.items ++ rows_from (length ps) (each_from entry 0 (map package_text ps))) r0 r1 c.loop-ix-test.true c.loop-ix.invariant pushed
