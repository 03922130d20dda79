-- The values that the types of described workspaces contain.
use Rattle.std.specs.Prelude.{List, Option, map, option_map}
use Rattle.std.specs.Borrow.{Bor}
use Rattle.cargo_json.specs.Faults.{Text}
use Rattle.workspace_documents.specs.Leads.{LinksText, DescribedText}
use Rattle.workspace_documents.specs.Views.{text_view, package_view, entries_view}
use Rattle.workspace_documents.specs.declared.leads.Leads.{Leads}
use Rattle.workspace_documents.specs.declared.leads.Links.{Links}
use Rattle.workspace_documents.specs.declared.leads.Described.{Described}

abbrev pub lead_view : Option (Bor Text) → Option Text
lead_view lead = option_map text_view lead

abbrev pub leads_view : Leads → Text × List (Option Text)
leads_view l = (l.owner.now, map lead_view l.targets.items)

abbrev pub links_view : Links → LinksText
links_view l = record { members = map text_view l.members.items; default_members = map text_view l.default_members.items; root = lead_view l.root; leads = map leads_view l.leads.items }

abbrev pub described_view : Described → DescribedText
described_view d = record { packages = entries_view package_view d.packages.entries; links = links_view d.links }
