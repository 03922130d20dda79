use Rattle.std.proofs.Common.{◌∙◌, ap, map}
use Rattle.std.specs.Map.Iter.{deref_pair}
use Rattle.std.proofs.lemmas.Map.Iter.{rest_more}
use Rattle.std.proofs.lemmas.Result.{err_from_is_err_and}
use Rattle.workspace_documents.specs.Nodes.{NodeText}
use Rattle.workspace_documents.specs.Views.{dep_view}
use Rattle.cargo_rows.proofs.Joined.{rows_more, rows_refused}
use Rattle.cargo_rows.proofs.metadata.rows_of_packages.Goals as goal

pub loop-id-preserved : goal.loop-id-preserved
loop-id-preserved c = λ texts held.
    let left = rest_more deref_pair c.loop-id.id-iterator c.next.new.self c.next.result (c.in-Some.id, c.in-Some.package) c.in-Some.is c.next.ensures.steps in
    let member = c.contains-is_member.ensures ∙ held c.in-Some.id.now in
    let used = ap (map dep_view) c.deref.ensures.value ∙ ap (λ (n : NodeText). n.deps) c.node_at-node.ensures in
    rows_more _ _ _ _ _ _ _ _ _ _ left member used (c.loop-id.invariant texts held) _ c.in_ok-push_rows.ensures

pub returns-in_err-push_rows : goal.returns-in_err-push_rows
returns-in_err-push_rows c = λ texts held.
    let left = rest_more deref_pair c.loop-id.id-iterator c.next.new.self c.next.result (c.in-Some.id, c.in-Some.package) c.in-Some.is c.next.ensures.steps in
    let member = c.contains-is_member.ensures ∙ held c.in-Some.id.now in
    let used = ap (map dep_view) c.deref.ensures.value ∙ ap (λ (n : NodeText). n.deps) c.node_at-node.ensures in
    let p = err_from_is_err_and c.from_residual.result c.from_residual.ensures.1 in
    rw (p.1, p.2) (rows_refused _ _ _ _ _ _ _ _ _ _ left member used (c.loop-id.invariant texts held) _ c.in_err-push_rows.ensures)
