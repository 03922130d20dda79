use Rattle.json.specs.Value.{value_view}
use Rattle.cargo_workspaces.specs.WorkspaceView.{workspace_text}
use Rattle.feats_plans.specs.BasisView.{basis_text}
use Rattle.feats_plans.specs.Inputs.{inputs_text}
use Rattle.feats_plans.specs.Planning.{IsPlatformRefusal, IsWorkspaceRefusal, of_workspace}
use Rattle.feats_plans.proofs.Says.{if_err_more}
use Rattle.feats_plans.proofs.visits.document_output.Goals as goal

pub returns-clause-fault : goal.returns-clause-fault
returns-clause-fault g c =
    let inputs = inputs_text c.args.arguments.now c.args.files.now in
    let basis = basis_text c.args.basis.now in
    let w = workspace_text c.in_ok-workspace.workspace in
    let R = g.V.PlanVisitor.refuses c.args.visitor.now in
    if_err_more c.workspace_output.result (IsPlatformRefusal inputs basis w R) (IsWorkspaceRefusal inputs basis R (value_view c.args.document))
    (λ m h. of_workspace w c.in_ok-workspace.ensures.workspace h) c.workspace_output.ensures.fault
