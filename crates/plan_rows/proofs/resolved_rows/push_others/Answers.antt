use Rattle.std.proofs.Common.{◌≡◌, ◌∙◌, ◌+◌, ◌≤◌, ◌++◌, ap, arith, false, get_or, Global, length, List, map, sym, Vec, ℕ}
use Rattle.std.specs.List.{list_all}
use Rattle.std.proofs.lemmas.List.{append-nil}
use Rattle.guppy_packages.specs.Rows.{row_text}
use Rattle.cargo_workspaces.specs.Views.{package_text}
use Rattle.cargo_workspaces.specs.Workspaces.{DeclarationText, FeatureText, IsPackage, is_within, PackageText}
use Rattle.cargo_workspaces.specs.declared.package.Package.{Package}
use Rattle.plan_rows.specs.Gates.{gated_text}
use Rattle.plan_rows.specs.Steps.{dependencies_by, gated_feature, other_entry, resolved_lead}
use Rattle.plan_rows.specs.Tables.{each_from, entry_rows, rows_from}
use Rattle.plan_rows.specs.declared.gated_features.GatedFeature.{GatedFeature}
use Rattle.plan_rows.proofs.EntryLemmas.{declarations_within, entries_step}
use Rattle.plan_rows.proofs.GateLemmas.{same_at}
use Rattle.plan_rows.proofs.Lists.{all_place}
use Rattle.plan_rows.proofs.resolved_rows.push_others.Goals as goal

pub push_entry-requires-clause-within : goal.push_entry-requires-clause-within
push_entry-requires-clause-within c =
    let ps = c.args.packages.now in
    let item = c.index-packages-ix.result in
    let here = all_place package_text (IsPackage (length ps)) ps c.loop-ix.ix item c.requires.packages c.loop-ix-test.true in
    let few : length ps ≤ c.args.ids.now = omega arith in
    declarations_within (length ps) c.args.ids.now (package_text item).declarations few
    (ap (λ (x : Package). list_all (λ (d : DeclarationText). is_within (length ps) d.leads_to) (package_text x).declarations) c.index-packages-ix.is ∙ here.2)

pub loop-ix-preserved : goal.loop-ix-preserved
loop-ix-preserved c =
    let ps = c.args.packages.now in
    let ix = c.loop-ix.ix in
    let item = c.index-packages-ix.result in
    let r0 = map row_text c.loop-ix.rows.items in
    let r1 = map row_text c.push_entry.new.rows.items in
    let view = λ (v : Vec GatedFeature Global). map gated_text v.items in
    let wanted = λ (p : PackageText). map gated_feature p.features in
    let at = same_at view wanted package_text c.args.gated.now.packages.items ps ix c.index.result.now item c.requires.gated c.loop-ix-test.true in
    let features : map gated_text c.deref.result.now ≡ wanted (package_text item) =
    ap (map gated_text) c.deref.ensures.value ∙ ap view c.index.ensures ∙ at ∙ ap (λ (x : Package). wanted (package_text x)) (sym c.index-packages-ix.is) in
    let pushed : r1 ≡ r0 ++ entry_rows (0 + ix) (other_entry ix (package_text (get_or ps ix item))) =
    c.in_ok-push_entry.ensures
    ∙ ap (λ (fs : List FeatureText). r0 ++ entry_rows ix (record { features = fs; dependencies = dependencies_by false (resolved_lead false) (package_text item).declarations })) (append-nil (map gated_text c.deref.result.now) ∙ features)
    ∙ ap (λ (x : Package). r0 ++ entry_rows ix (other_entry ix (package_text x))) c.index-packages-ix.is
    ∙ ap (λ (n : ℕ). r0 ++ entry_rows n (other_entry ix (package_text (get_or ps ix item)))) (omega arith) in
    entries_step package_text other_entry 0 ix ps item (map row_text c.args.rows.now.items ++ rows_from 0 (each_from other_entry 0 (map package_text ps))) r0 r1 c.loop-ix-test.true c.loop-ix.invariant pushed
