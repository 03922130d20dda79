use Rattle.std.proofs.Common.{ℕ, Bor, IfOk, List, Option, option_map, subst, sym}
use Rattle.cargo_plans.specs.WordsView.{words_text}
use Rattle.cargo_workspaces.specs.WorkspaceView.{workspace_text}
use Rattle.plan_rows.specs.platforms.HeldSpecs.{holds_on}
use Rattle.cargo_plans.specs.plan_steps.PlanViews.{plan_text}
use Rattle.feats_answers.specs.AnswerViews.{answer_text}
use Rattle.feats_answers.specs.FeatureTexts.{IsFeatureTreeAnswer}
use Rattle.feats_answers.proofs.feature_texts.answer_to_feature_tree.Goals as goal

pub returns-in_ok-tree_answer-in-None-clause-answer : goal.returns-in_ok-tree_answer-in-None-clause-answer
returns-in_ok-tree_answer-in-None-clause-answer c =
    let w = workspace_text c.args.workspace.now in
    let words = words_text holds_on c.args.words.now in
    subst (λ (o : Option (Bor (List ℕ))). IsFeatureTreeAnswer c.args.format w words (plan_text c.args.plan.now) (option_map (λ t. t.now) o) c.args.depth (answer_text c.in_ok-tree_answer-in-None.field-0))
    (sym c.in-None.is) c.in_ok-tree_answer-in-None.ensures

pub returns-in-Some-clause-answer : goal.returns-in-Some-clause-answer
returns-in-Some-clause-answer c =
    let w = workspace_text c.args.workspace.now in
    let words = words_text holds_on c.args.words.now in
    subst (λ (o : Option (Bor (List ℕ))). IfOk c.inverted_answer.result (λ a. IsFeatureTreeAnswer c.args.format w words (plan_text c.args.plan.now) (option_map (λ t. t.now) o) c.args.depth (answer_text a)))
    (sym c.in-Some.is) c.inverted_answer.ensures.answer
