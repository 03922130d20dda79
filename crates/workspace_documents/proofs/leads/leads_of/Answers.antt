use Rattle.std.proofs.Common.{◌∙◌, ap, map}
use Rattle.std.proofs.lemmas.List.{map-append}
use Rattle.workspace_documents.specs.LeadViews.{lead_view}
use Rattle.workspace_documents.proofs.LeadLists.{leads_more}
use Rattle.workspace_documents.proofs.leads.leads_of.Goals as goal

pub loop-declaration-preserved : goal.loop-declaration-preserved
loop-declaration-preserved c =
    let pushed = ap (map lead_view) c.in_ok-push.ensures.items ∙ map-append lead_view c.loop-declaration.leads.items _ in
    rw pushed (leads_more _ _ _ _ c.declaration-item.result _ _ c.loop-declaration-test.true c.declaration-item.is c.loop-declaration.invariant _ c.in_ok-lead_of.ensures)
