use Rattle.std.proofs.Common.{◌≡◌, ◌+◌, ◌∙◌, ◌++◌, ◌∷◌, [], map, ap, rules, true, false}
use Rattle.guppy_packages.specs.Rows.{row_text, a_package}
use Rattle.std.specs.Fmt.{decimal}
use Rattle.cargo_workspaces.specs.Views.{declaration_text, package_text}
use Rattle.cargo_workspaces.specs.Workspaces.{has_script}
use Rattle.plan_rows.specs.SettingsView.{settings_text}
use Rattle.plan_rows.specs.Steps.{dependencies_by, lead_by, built_lead}
use Rattle.plan_rows.specs.Tables.{dependency_row, flag_at}
use Rattle.plan_rows.specs.inner.Leads.{dependencies_at}
use Rattle.plan_rows.proofs.Lists.{all_within_more, on_ok}
use Rattle.plan_rows.proofs.EntryLemmas.{dependencies_at-map, plain_entry_pushed}
use Rattle.plan_rows.proofs.built_rows.push_entry.Goals as goal

pub push_dependencies-requires-clause-within : goal.push_dependencies-requires-clause-within
push_dependencies-requires-clause-within g c =
    let same : c.deref-3.result.now ≡ c.in_ok-leads.leads.items = search rules in
    rw same (all_within_more _ c.args.ids.now c.in_ok-leads.leads.items c.requires.room c.in_ok-leads.ensures.within)

pub returns : goal.returns
returns g c =
    let p = c.args.package.now in
    let given = c.args.rules.now in
    let place = c.args.place.now in
    let k = place.base + c.args.ix in
    let lead = built_lead given.macros.now (settings_text g.P.Platform.holds given.settings.now) (g.T.TurnedOn.turned_on given.turned_on.now place.side) (flag_at given.with_dev.now) place.base (g.P.Platform.holds place.platform.now) (has_script (package_text p)) c.args.ix in
    let told = built_lead given.macros.now (settings_text g.P.Platform.holds given.settings.now) (g.T.TurnedOn.turned_on given.turned_on.now place.side) (flag_at given.with_dev.now) place.base (g.P.Platform.holds place.platform.now) c.has_script.result c.args.ix in
    let ds = map declaration_text p.declarations.items in
    let r0 = map row_text c.args.rows.now.items in
    let r1 = map row_text c.push_package.new.rows.items in
    let r2 = map row_text c.push_dependencies.new.rows.items in
    let d1 : c.deref.result.now ≡ p.declarations.items = c.deref.ensures.value in
    let d2 : c.deref-2.result.now ≡ p.declarations.items = c.deref-2.ensures.value in
    let d3 : c.deref-3.result.now ≡ c.in_ok-leads.leads.items = c.deref-3.ensures.value in
    let script : c.has_script.result ≡ has_script (package_text p) = c.has_script.ensures in
    let e1 : r1 ≡ r0 ++ a_package (decimal k) false ∷ [] = c.in_ok-push_package.ensures in
    let same_lead : map (lead_by told) ds ≡ map (lead_by lead) ds =
    ap (λ s. map (lead_by (built_lead given.macros.now (settings_text g.P.Platform.holds given.settings.now) (g.T.TurnedOn.turned_on given.turned_on.now place.side) (flag_at given.with_dev.now) place.base (g.P.Platform.holds place.platform.now) s c.args.ix)) ds) script in
    let leads : c.deref-3.result.now ≡ map (lead_by lead) ds = d3 ∙ c.in_ok-leads.ensures.leads ∙ ap (λ z. map (lead_by told) (map declaration_text z)) d1 ∙ same_lead in
    let deps : dependencies_at true (map declaration_text c.deref-2.result.now) c.deref-3.result.now ≡ dependencies_by true lead ds =
    ap (λ z. dependencies_at true (map declaration_text z) c.deref-3.result.now) d2 ∙ ap (dependencies_at true ds) leads ∙ dependencies_at-map true (lead_by lead) ds in
    on_ok c.push_dependencies.result c.push_dependencies.ensures
    (λ e2. plain_entry_pushed k (dependencies_by true lead ds) r0 r1 r2 e1 (e2 ∙ ap (λ z. r1 ++ map dependency_row z) deps))
