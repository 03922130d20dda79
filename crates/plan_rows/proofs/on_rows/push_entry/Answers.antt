use Rattle.std.proofs.Common.{◌≡◌, ◌+◌, ◌∙◌, ◌++◌, ◌∷◌, [], map, ap, length, rules, false}
use Rattle.guppy_packages.specs.Rows.{row_text, a_package}
use Rattle.std.specs.Fmt.{decimal}
use Rattle.cargo_workspaces.specs.Views.{declaration_text, feature_text}
use Rattle.plan_rows.specs.Commands.{command_of, command_texts}
use Rattle.plan_rows.specs.SettingsView.{settings_text}
use Rattle.plan_rows.specs.Steps.{command_list, dependencies_by, lead_by, on_lead, side_base}
use Rattle.plan_rows.specs.Tables.{dependency_row, feature_row}
use Rattle.plan_rows.specs.inner.Leads.{dependencies_at}
use Rattle.plan_rows.proofs.Lists.{all_within_more, on_ok}
use Rattle.plan_rows.proofs.EntryLemmas.{dependencies_at-map, entry_pushed}
use Rattle.plan_rows.proofs.on_rows.push_entry.Goals as goal

pub push_dependencies-requires-clause-within : goal.push_dependencies-requires-clause-within
push_dependencies-requires-clause-within g c =
    let same : c.deref-4.result.now ≡ c.in_ok-leads.leads.items = search rules in
    rw same (all_within_more _ c.args.ids.now c.in_ok-leads.leads.items c.requires.room c.in_ok-leads.ensures.within)

pub returns : goal.returns
returns g c =
    let p = c.args.package.now in
    let macros = c.args.rules.now.macros.now in
    let k = side_base (length macros) c.args.side + c.args.ix in
    let lead = on_lead macros (settings_text g.P.Platform.holds c.args.rules.now.settings.now) (g.K.Kept.kept c.args.rules.now.kept.now) c.args.side c.args.ix in
    let ds = map declaration_text p.declarations.items in
    let fs = map feature_text p.features.items in
    let command = command_list (command_of (command_texts c.args.rules.now.settings.now.commands.now) c.args.ix) in
    let r0 = map row_text c.args.rows.now.items in
    let r1 = map row_text c.push_package.new.rows.items in
    let r2 = map row_text c.push_features.new.rows.items in
    let r3 = map row_text c.push_command_of.new.rows.items in
    let r4 = map row_text c.push_dependencies.new.rows.items in
    let d1 : c.deref.result.now ≡ p.declarations.items = search rules in
    let d2 : c.deref-2.result.now ≡ p.features.items = search rules in
    let d3 : c.deref-3.result.now ≡ p.declarations.items = search rules in
    let d4 : c.deref-4.result.now ≡ c.in_ok-leads.leads.items = search rules in
    let number : c.base.result + c.args.ix ≡ k = search rules in
    let e1 : r1 ≡ r0 ++ a_package (decimal k) false ∷ [] = c.in_ok-push_package.ensures ∙ ap (λ n. r0 ++ a_package (decimal n) false ∷ []) number in
    let e2 : r2 ≡ r1 ++ map feature_row fs = c.in_ok-push_features.ensures ∙ ap (λ z. r1 ++ map feature_row (map feature_text z)) d2 in
    let e3 : r3 ≡ r2 ++ map feature_row command = c.in_ok-push_command_of.ensures in
    let leads : c.deref-4.result.now ≡ map (lead_by lead) ds = d4 ∙ c.in_ok-leads.ensures.leads ∙ ap (λ z. map (lead_by lead) (map declaration_text z)) d1 in
    let deps : dependencies_at false (map declaration_text c.deref-3.result.now) c.deref-4.result.now ≡ dependencies_by false lead ds =
    ap (λ z. dependencies_at false (map declaration_text z) c.deref-4.result.now) d3 ∙ ap (dependencies_at false ds) leads ∙ dependencies_at-map false (lead_by lead) ds in
    on_ok c.push_dependencies.result c.push_dependencies.ensures
    (λ e4. entry_pushed k fs command (dependencies_by false lead ds) r0 r1 r2 r3 r4 e1 e2 e3 (e4 ∙ ap (λ z. r3 ++ map dependency_row z) deps))
