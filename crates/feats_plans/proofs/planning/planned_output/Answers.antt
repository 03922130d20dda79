use Rattle.std.proofs.Common.{◌≡◌, rules}
use Rattle.std.proofs.lemmas.Result.{IfOk-weaker}
use Rattle.cargo_plans.specs.WordsView.{words_text}
use Rattle.cargo_workspaces.specs.WorkspaceView.{workspace_text}
use Rattle.feats_files.specs.plan_messages.Messages.{plan_message}
use Rattle.plan_rows.specs.platforms.HeldSpecs.{holds_on}
use Rattle.cargo_plans.specs.plan_steps.PlanViews.{plan_text}
use Rattle.feats_plans.specs.Inputs.{inputs_text}
use Rattle.feats_plans.specs.Planning.{IsPlanRefusal, no_plan, of_plan, planned}
use Rattle.feats_plans.proofs.Says.{if_err_more, says_more}
use Rattle.feats_plans.proofs.planning.planned_output.Goals as goal

pub returns-in-Ok-clause-output : goal.returns-in-Ok-clause-output
returns-in-Ok-clause-output g c =
    IfOk-weaker c.visit-output.result _ _ (λ output h. record { plan = plan_text c.in-Ok.plan; is_plan = c.in-Ok.ensures.plan; holds = h }) c.visit-output.ensures.output

pub returns-in-Ok-clause-fault : goal.returns-in-Ok-clause-fault
returns-in-Ok-clause-fault g c =
    let inputs = inputs_text c.args.arguments.now c.args.files.now in
    let w = workspace_text c.args.workspace.now in
    let words = words_text holds_on c.args.words.now in
    let plan = plan_text c.in-Ok.plan in
    let R = g.V.PlanVisitor.refuses c.args.visitor.now in
    if_err_more c.visit-output.result (R (planned inputs w words plan)) (IsPlanRefusal inputs w words R) (λ m h. of_plan plan c.in-Ok.ensures.plan h) c.visit-output.ensures.fault

pub returns-else-is_memory-clause-fault : goal.returns-else-is_memory-clause-fault
returns-else-is_memory-clause-fault g c =
    let inputs = inputs_text c.args.arguments.now c.args.files.now in
    let w = workspace_text c.args.workspace.now in
    let words = words_text holds_on c.args.words.now in
    let R = g.V.PlanVisitor.refuses c.args.visitor.now in
    says_more c.plan_refused.result (λ m. m ≡ plan_message w.packages c.in-Err.fault) (IsPlanRefusal inputs w words R)
    (λ m h. no_plan c.in-Err.fault c.in-Err.ensures.fault (search rules) h) c.plan_refused.ensures
