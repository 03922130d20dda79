use Rattle.std.proofs.Common.{◌∙◌, ap, map}
use Rattle.std.proofs.lemmas.Result.{IfOk-weaker}
use Rattle.cargo_plans.specs.WordsView.{words_text}
use Rattle.cargo_workspaces.specs.WorkspaceView.{workspace_text}
use Rattle.plan_rows.specs.platforms.HeldSpecs.{holds_on}
use Rattle.plan_rows.specs.platforms.Views.{declared_text}
use Rattle.feats_plans.specs.BasisView.{basis_text}
use Rattle.feats_plans.specs.Inputs.{inputs_text}
use Rattle.feats_plans.specs.Planning.{IsPlanRefusal, IsPlatformRefusal}
use Rattle.feats_plans.proofs.Says.{if_err_more}
use Rattle.feats_plans.proofs.Stages.{are_holding, held_planned, held_refused}
use Rattle.feats_plans.proofs.planning.workspace_output.Goals as goal

pub returns-clause-output : goal.returns-clause-output
returns-clause-output g c =
    let inputs = inputs_text c.args.arguments.now c.args.files.now in
    let basis = basis_text c.args.basis.now in
    let w = workspace_text c.args.workspace.now in
    let host = holds_on c.in_ok-host.host in
    let targets = map holds_on c.deref-4.result.now in
    let on_host = ap (map declared_text) c.deref.ensures.value ∙ c.in_ok-specs.ensures in
    let on_targets = ap (map declared_text) c.deref-2.ensures.value ∙ c.in_ok-specs.ensures in
    let holding = are_holding inputs basis w host targets (map declared_text c.deref.result.now) on_host c.in_ok-host.ensures.held (map declared_text c.deref-2.result.now) on_targets
    c.deref-3.result.now c.deref-3.ensures.value (map holds_on c.in_ok-targets.targets.items) (ap (map holds_on) c.deref-4.ensures.value) c.in_ok-targets.ensures.held in
    IfOk-weaker c.planned_output.result _ _ (λ output h. held_planned inputs basis w host targets (λ p. g.V.PlanVisitor.gives c.args.visitor.now p output) (words_text holds_on c.words_by-words.result) c.words_by-words.ensures holding h) c.planned_output.ensures.output

pub returns-clause-fault : goal.returns-clause-fault
returns-clause-fault g c =
    let inputs = inputs_text c.args.arguments.now c.args.files.now in
    let basis = basis_text c.args.basis.now in
    let w = workspace_text c.args.workspace.now in
    let host = holds_on c.in_ok-host.host in
    let targets = map holds_on c.deref-4.result.now in
    let on_host = ap (map declared_text) c.deref.ensures.value ∙ c.in_ok-specs.ensures in
    let on_targets = ap (map declared_text) c.deref-2.ensures.value ∙ c.in_ok-specs.ensures in
    let holding = are_holding inputs basis w host targets (map declared_text c.deref.result.now) on_host c.in_ok-host.ensures.held (map declared_text c.deref-2.result.now) on_targets
    c.deref-3.result.now c.deref-3.ensures.value (map holds_on c.in_ok-targets.targets.items) (ap (map holds_on) c.deref-4.ensures.value) c.in_ok-targets.ensures.held in
    let R = g.V.PlanVisitor.refuses c.args.visitor.now in
    let words = words_text holds_on c.words_by-words.result in
    if_err_more c.planned_output.result (IsPlanRefusal inputs w words R) (IsPlatformRefusal inputs basis w R)
    (held_refused inputs basis w host targets R words c.words_by-words.ensures holding) c.planned_output.ensures.fault
