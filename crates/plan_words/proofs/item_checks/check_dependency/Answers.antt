use Rattle.std.proofs.Common.{length}
use Rattle.cargo_workspaces.specs.Views.{declaration_text}
use Rattle.cargo_workspaces.specs.WorkspaceView.{workspace_text}
use Rattle.cargo_workspaces.specs.Workspaces.{DeclarationText, is_within}
use Rattle.plan_words.proofs.Lists.{list_all_mapped}
use Rattle.plan_words.proofs.item_checks.check_dependency.Goals as goal

pub check_lead-requires : goal.check_lead-requires
check_lead-requires c =
    list_all_mapped declaration_text (λ (d : DeclarationText). is_within (length (workspace_text c.args.workspace.now).packages) d.leads_to) c.deref-declaration-items.result.now c.loop-declaration.declaration-index c.declaration-item.result (rw c.deref-declaration-items.ensures.value c.requires.2) c.loop-declaration-test.true c.declaration-item.is
