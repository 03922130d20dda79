use Rattle.cargo_workspaces.specs.Views.{declaration_text}
use Rattle.cargo_workspaces.specs.Workspaces.{DeclarationText, is_within}
use Rattle.plan_rows.proofs.Lists.{list_all_mapped}
use Rattle.plan_rows.proofs.resolved_rows.push_resolved.Goals as goal

pub push_lead-requires : goal.push_lead-requires
push_lead-requires c =
    c.lead.ensures.within c.args.ids.now (list_all_mapped declaration_text (λ (d : DeclarationText). is_within c.args.ids.now d.leads_to) c.args.declarations.now c.loop-declaration.declaration-index c.declaration-item.result c.requires c.loop-declaration-test.true c.declaration-item.is)
