use Rattle.std.proofs.lemmas.Result.{err_from_is_err_and}
use Rattle.workspace_documents.proofs.Steps.{no_members, no_nodes, resolved_are}
use Rattle.workspace_documents.proofs.nodes.resolved_in.Goals as goal

pub returns-in_err-members : goal.returns-in_err-members
returns-in_err-members c =
    let p = err_from_is_err_and c.from_residual.result c.from_residual.ensures.1 in
    rw (p.1, p.2) (no_members _ _ _ c.in_err-members.ensures)

pub returns-in_err-nodes : goal.returns-in_err-nodes
returns-in_err-nodes c =
    let p = err_from_is_err_and c.from_residual-in_err-nodes.result c.from_residual-in_err-nodes.ensures.1 in
    rw (p.1, p.2) (no_nodes _ _ _ c.in_ok-members.ensures _ c.in_err-nodes.ensures)

pub returns : goal.returns
returns c = resolved_are _ _ _ c.in_ok-members.ensures _ c.in_ok-nodes.ensures
