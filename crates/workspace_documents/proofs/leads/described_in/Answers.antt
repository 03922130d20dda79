use Rattle.std.proofs.Common.{sym, subst}
use Rattle.cargo_json.specs.Faults.{Gives}
use Rattle.workspace_documents.specs.LeadViews.{described_view}
use Rattle.workspace_documents.proofs.Whole.{described_by}
use Rattle.workspace_documents.proofs.Rules.{sound_result}
use Rattle.workspace_documents.proofs.leads.described_in.Goals as goal

pub returns-clause-described : goal.returns-clause-described
returns-clause-described c = subst (Gives described_view c.with_links.result) (sym (described_by _ _ _ c.in_ok-listed.ensures _ c.in_ok-packages.ensures)) c.with_links.ensures

pub returns-clause-rules : goal.returns-clause-rules
returns-clause-rules c = sound_result _ c.with_links.result (subst (Gives described_view c.with_links.result) (sym (described_by _ _ _ c.in_ok-listed.ensures _ c.in_ok-packages.ensures)) c.with_links.ensures)
