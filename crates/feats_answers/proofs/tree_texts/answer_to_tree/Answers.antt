use Rattle.std.proofs.Common.{ℕ, Bor, List, Option, map, subst, sym}
use Rattle.std.proofs.lemmas.Result.{IfOk-weaker}
use Rattle.std.specs.Prelude.{option_map}
use Rattle.cargo_workspaces.specs.WorkspaceView.{workspace_text}
use Rattle.feats_files.specs.FileViews.{file_text}
use Rattle.cargo_plans.specs.plan_steps.PlanViews.{plan_text}
use Rattle.feats_answers.specs.AnswerViews.{answer_text}
use Rattle.feats_answers.specs.TreeTexts.{IsTreeAnswer}
use Rattle.feats_answers.proofs.tree_texts.answer_to_tree.Goals as goal

pub returns-in_ok-tree_answer-in-None-clause-answer : goal.returns-in_ok-tree_answer-in-None-clause-answer
returns-in_ok-tree_answer-in-None-clause-answer c =
    let w = workspace_text c.args.workspace.now in
    let files = map file_text c.args.files.now in
    subst (λ (o : Option (Bor (List ℕ))). IsTreeAnswer c.args.format files w (plan_text c.args.plan.now) (option_map (λ t. t.now) o) c.args.depth (answer_text c.in_ok-tree_answer-in-None.field-0))
    (sym c.in-None.is) c.in_ok-tree_answer-in-None.ensures

pub returns-in-Some-clause-answer : goal.returns-in-Some-clause-answer
returns-in-Some-clause-answer c =
    let w = workspace_text c.args.workspace.now in
    let files = map file_text c.args.files.now in
    IfOk-weaker c.inverted_answer.result _ _ (λ a h. subst (λ (o : Option (Bor (List ℕ))). IsTreeAnswer c.args.format files w (plan_text c.args.plan.now) (option_map (λ t. t.now) o) c.args.depth (answer_text a))
    (sym c.in-Some.is) h) c.inverted_answer.ensures.answer
