use Rattle.std.proofs.Common.{◌∙◌, ap, map}
use Rattle.std.proofs.lemmas.List.{map-append}
use Rattle.std.proofs.lemmas.Result.{err_from_is_err_and}
use Rattle.workspace_documents.specs.Nodes.{NodeText}
use Rattle.workspace_documents.specs.Views.{dep_view}
use Rattle.workspace_documents.specs.LeadViews.{leads_view}
use Rattle.workspace_documents.proofs.LeadLists.{all_more, all_refused}
use Rattle.workspace_documents.proofs.leads.all_leads.Goals as goal

pub loop-id-preserved : goal.loop-id-preserved
loop-id-preserved c =
    let used = ap (map dep_view) c.deref.ensures.value ∙ ap (λ (n : NodeText). n.deps) c.node_at-node.ensures in
    let pushed = ap (map leads_view) c.in_ok-push.ensures.items ∙ map-append leads_view c.loop-id.all.items _ in
    rw pushed (all_more _ _ _ _ _ _ _ _ c.in-Some.ensures.steps used c.loop-id.invariant _ c.in_ok-targets.ensures)

pub returns-in_err-targets : goal.returns-in_err-targets
returns-in_err-targets c =
    let used = ap (map dep_view) c.deref.ensures.value ∙ ap (λ (n : NodeText). n.deps) c.node_at-node.ensures in
    let p = err_from_is_err_and c.from_residual-in_err-targets.result c.from_residual-in_err-targets.ensures.1 in
    rw (p.1, p.2) (all_refused _ _ _ _ _ _ _ _ c.in-Some.ensures.steps used c.loop-id.invariant _ c.in_err-targets.ensures)
