use Rattle.std.proofs.Common.{IfOk, option_map, subst, sym}
use Rattle.cargo_plans.specs.WordsView.{words_text}
use Rattle.cargo_workspaces.specs.WorkspaceView.{workspace_text}
use Rattle.feats_words.specs.declared.edges.Edges.{Edges}
use Rattle.plan_rows.specs.platforms.HeldSpecs.{holds_on}
use Rattle.cargo_plans.specs.plan_steps.PlanViews.{plan_text}
use Rattle.feats_answers.specs.AnswerViews.{answer_text}
use Rattle.feats_answers.specs.Asked.{asked_text}
use Rattle.feats_answers.specs.EdgeTexts.{IsTreeBy}
use Rattle.feats_answers.proofs.edge_texts.answer_to_edge_tree.Goals as goal

pub returns-in-Packages-clause-answer : goal.returns-in-Packages-clause-answer
returns-in-Packages-clause-answer c =
    let w = workspace_text c.args.workspace.now in
    let words = words_text holds_on c.args.words.now in
    let invert = option_map (λ t. t.now) c.args.invert in
    subst (λ (e : Edges). IfOk c.answer_to_tree.result (λ a. IsTreeBy e (asked_text c.args.asked) w words (plan_text c.args.plan.now) invert (answer_text a))) (sym c.in-Packages.is) c.answer_to_tree.ensures.answer

pub returns-in-Features-clause-answer : goal.returns-in-Features-clause-answer
returns-in-Features-clause-answer c =
    let w = workspace_text c.args.workspace.now in
    let words = words_text holds_on c.args.words.now in
    let invert = option_map (λ t. t.now) c.args.invert in
    subst (λ (e : Edges). IfOk c.answer_to_feature_tree.result (λ a. IsTreeBy e (asked_text c.args.asked) w words (plan_text c.args.plan.now) invert (answer_text a))) (sym c.in-Features.is) c.answer_to_feature_tree.ensures.answer
