use Rattle.std.proofs.Common.{◌≡◌, ◌∙◌, ◌++◌, map, ap, rules, false}
use Rattle.guppy_packages.specs.Rows.{row_text}
use Rattle.cargo_workspaces.specs.Views.{declaration_text}
use Rattle.plan_rows.specs.Gates.{gated_text}
use Rattle.plan_rows.specs.Steps.{dependencies_by, resolved_lead}
use Rattle.plan_rows.specs.Tables.{dependency_row}
use Rattle.plan_rows.proofs.Lists.{on_ok}
use Rattle.plan_rows.proofs.EntryLemmas.{entry_pushed}
use Rattle.plan_rows.proofs.resolved_rows.push_entry.Goals as goal

pub returns : goal.returns
returns c =
    let p = c.args.package.now in
    let fs = map gated_text c.args.features.now in
    let command = map gated_text c.args.command.now in
    let r0 = map row_text c.args.rows.now.items in
    let r1 = map row_text c.push_package.new.rows.items in
    let r2 = map row_text c.push_all_gated.new.rows.items in
    let r3 = map row_text c.push_all_gated-2.new.rows.items in
    let r4 = map row_text c.push_resolved.new.rows.items in
    let d : c.deref.result.now ≡ p.declarations.items = search rules in
    on_ok c.push_resolved.result c.push_resolved.ensures
    (λ e4. entry_pushed c.args.number fs command (dependencies_by false (resolved_lead c.args.started) (map declaration_text p.declarations.items)) r0 r1 r2 r3 r4 c.in_ok-push_package.ensures c.in_ok-push_all_gated.ensures c.in_ok-push_all_gated-2.ensures
    (e4 ∙ ap (λ z. r3 ++ map dependency_row (dependencies_by false (resolved_lead c.args.started) (map declaration_text z))) d))
