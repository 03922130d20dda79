use Rattle.std.proofs.lemmas.Result.{err_from_is_err_and}
use Rattle.workspace_documents.proofs.Steps.{no_default_members, no_root, no_leads, links_are}
use Rattle.workspace_documents.proofs.leads.links_in.Goals as goal

pub returns-in_err-default_members : goal.returns-in_err-default_members
returns-in_err-default_members c =
    let p = err_from_is_err_and c.from_residual-in_err-default_members.result c.from_residual-in_err-default_members.ensures.1 in
    rw (p.1, p.2) (no_default_members _ _ _ c.in_ok-resolved.ensures _ c.in_err-default_members.ensures)

pub returns-in_err-root : goal.returns-in_err-root
returns-in_err-root c =
    let p = err_from_is_err_and c.from_residual-in_err-root.result c.from_residual-in_err-root.ensures.1 in
    rw (p.1, p.2) (no_root _ _ _ c.in_ok-resolved.ensures _ c.in_ok-default_members.ensures _ c.in_err-root.ensures)

pub returns-in_err-leads : goal.returns-in_err-leads
returns-in_err-leads c =
    let p = err_from_is_err_and c.from_residual-in_err-leads.result c.from_residual-in_err-leads.ensures.1 in
    rw (p.1, p.2) (no_leads _ _ _ c.in_ok-resolved.ensures _ c.in_ok-default_members.ensures _ c.in_ok-root.ensures _ c.in_err-leads.ensures)

pub returns : goal.returns
returns c = links_are _ _ _ c.in_ok-resolved.ensures _ c.in_ok-default_members.ensures _ c.in_ok-root.ensures _ c.in_ok-leads.ensures
