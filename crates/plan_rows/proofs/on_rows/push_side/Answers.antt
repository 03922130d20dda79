use Rattle.std.proofs.Common.{◌≡◌, ◌∙◌, ap, length, map, ℕ}
use Rattle.std.specs.List.{list_all}
use Rattle.std.proofs.lemmas.List.{length-map}
use Rattle.cargo_workspaces.specs.Views.{package_text}
use Rattle.cargo_workspaces.specs.Workspaces.{DeclarationText, IsPackage, is_proc_macro, is_within}
use Rattle.cargo_workspaces.specs.declared.package.Package.{Package}
use Rattle.plan_rows.proofs.Lists.{all_place}
use Rattle.plan_rows.proofs.on_rows.push_side.Goals as goal

pub push_entry-requires-clause-within : goal.push_entry-requires-clause-within
push_entry-requires-clause-within g c =
    let ps = c.args.packages.now in
    let item = c.index-packages-ix.result in
    let long : length c.args.rules.now.macros.now ≡ length ps = ap length c.requires.macros ∙ length-map (map package_text ps) is_proc_macro ∙ length-map ps package_text in
    let here = all_place package_text (IsPackage (length ps)) ps c.loop-ix.ix item c.requires.packages c.loop-ix-test.true in
    ap (λ (n : ℕ). list_all (λ (d : DeclarationText). is_within n d.leads_to) (package_text item).declarations) long
    ∙ ap (λ (x : Package). list_all (λ (d : DeclarationText). is_within (length ps) d.leads_to) (package_text x).declarations) c.index-packages-ix.is
    ∙ here.2
