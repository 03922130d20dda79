use Rattle.std.proofs.Common.{◌≡◌, map, drop}
use Rattle.workspace_documents.specs.Leads.{leads_in}
use Rattle.workspace_documents.specs.Views.{declaration_view, dep_view}
use Rattle.workspace_documents.specs.LeadViews.{lead_view}
use Rattle.workspace_documents.proofs.Lists.{prepend}
use Rattle.workspace_documents.proofs.leads.leads_of.Given as goal

abbrev pub invariant-loop-declaration : goal.invariant-loop-declaration
invariant-loop-declaration l =
    let lead = leads_in l.package.id.now (map dep_view l.deps) in
    lead (map declaration_view l.package.declarations.items) ≡ prepend (map lead_view l.leads.items) (lead (map declaration_view (drop l.declaration-index l.declaration-items)))
