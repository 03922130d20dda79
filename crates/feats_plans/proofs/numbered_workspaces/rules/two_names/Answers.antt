use Rattle.std.proofs.Common.{◌∙◌, sym, ap, ℕ, map, take}
use Rattle.std.specs.Prelude.{Option, Some, None, option_map, if◌then◌else◌}
use Rattle.std.specs.BTreeMap.{get}
use Rattle.std.specs.Option.{option_or, unwrap_or}
use Rattle.std.specs.Ordering.{nat_cmp}
use Rattle.cargo_workspaces.specs.Views.{declaration_text}
use Rattle.cargo_workspaces.specs.Workspaces.{Text, both_lead_to}
use Rattle.workspace_documents.specs.Views.{text_view}
use Rattle.feats_plans.specs.numbered_workspaces.Faults.{other_names}
use Rattle.feats_plans.proofs.Names.{name_at, names_by, table_more, same_lookup, chosen_one, chosen_two}
use Rattle.feats_plans.proofs.Steps.{first_later, first_here, done_is, split_is}
use Rattle.feats_plans.proofs.numbered_workspaces.rules.two_names.Goals as goal

pub returns-then-ne : goal.returns-then-ne
returns-then-ne c =
    let all = map declaration_text c.args.declarations.now in
    let done = map declaration_text (take c.loop-declaration.declaration-index c.args.declarations.now) in
    let split = split_is declaration_text c.args.declarations.now c.loop-declaration.declaration-index c.declaration-item.result c.loop-declaration-test.true c.declaration-item.is in
    let looked = c.in_ok-first.ensures.first ∙ ap (λ (o : Option Text). unwrap_or o c.declaration-item.result.name.now) (same_lookup (λ (n : ℕ). option_map text_view (get nat_cmp c.loop-declaration.names n)) (name_at done) c.loop-declaration.invariant.table c.declaration-item.result.leads_to) in
    let names = names_by all done _ (declaration_text c.declaration-item.result) split c.in_ok-first.first.now looked in
    sym (first_here declaration_text c.args.declarations.now c.loop-declaration.declaration-index c.declaration-item.result c.loop-declaration-test.true c.declaration-item.is (other_names all) _ c.loop-declaration.invariant.so _ (names ∙ chosen_two _ _ (sym c.ne.ensures ∙ c.if-ne.true)))

pub loop-declaration-preserved : goal.loop-declaration-preserved
loop-declaration-preserved c =
    let all = map declaration_text c.args.declarations.now in
    let done = map declaration_text (take c.loop-declaration.declaration-index c.args.declarations.now) in
    let split = split_is declaration_text c.args.declarations.now c.loop-declaration.declaration-index c.declaration-item.result c.loop-declaration-test.true c.declaration-item.is in
    let looked = c.in_ok-first.ensures.first ∙ ap (λ (o : Option Text). unwrap_or o c.declaration-item.result.name.now) (same_lookup (λ (n : ℕ). option_map text_view (get nat_cmp c.loop-declaration.names n)) (name_at done) c.loop-declaration.invariant.table c.declaration-item.result.leads_to) in
    let names = names_by all done _ (declaration_text c.declaration-item.result) split c.in_ok-first.first.now looked in
    record {
      so = first_later declaration_text c.args.declarations.now c.loop-declaration.declaration-index c.declaration-item.result c.loop-declaration-test.true c.declaration-item.is (other_names all) _ c.loop-declaration.invariant.so (names ∙ chosen_one _ _ (sym c.ne.ensures ∙ c.if-ne.false));
      table = λ q.
          c.in_ok-first.ensures.kept q
          ∙ ap (λ (o : Option Text). option_or o (if both_lead_to c.declaration-item.result.leads_to (Some q) then Some c.declaration-item.result.name.now else None)) (c.loop-declaration.invariant.table q)
          ∙ sym (table_more done (declaration_text c.declaration-item.result) q)
          ∙ sym (ap (λ xs. name_at xs q) (done_is declaration_text c.args.declarations.now c.loop-declaration.declaration-index c.declaration-item.result c.loop-declaration-test.true c.declaration-item.is));
    }
