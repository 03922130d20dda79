use Rattle.std.proofs.Common.{◌≡◌, map}
use Rattle.workspace_documents.specs.Leads.{all_leads}
use Rattle.workspace_documents.specs.Views.{node_view, package_view, entries_view}
use Rattle.workspace_documents.specs.LeadViews.{leads_view}
use Rattle.workspace_documents.proofs.Lists.{prepend}
use Rattle.workspace_documents.proofs.leads.all_leads.Given as goal

abbrev pub invariant-loop-id : goal.invariant-loop-id
invariant-loop-id l =
    let lead = all_leads (entries_view node_view l.nodes.entries) in
    lead (entries_view package_view l.packages.entries) ≡ prepend (map leads_view l.all.items) (lead (entries_view package_view l.id-iterator))
