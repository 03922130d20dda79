use Rattle.std.proofs.Common.{IfOk, map, subst, sym}
use Rattle.cargo_plans.specs.WordsView.{words_text}
use Rattle.cargo_workspaces.specs.WorkspaceView.{workspace_text}
use Rattle.feats_files.specs.FileViews.{file_text}
use Rattle.feats_words.specs.declared.edges.Edges.{Edges}
use Rattle.plan_rows.specs.platforms.HeldSpecs.{holds_on}
use Rattle.cargo_plans.specs.plan_steps.PlanViews.{plan_text}
use Rattle.feats_answers.specs.AnswerViews.{answer_text}
use Rattle.feats_answers.specs.EdgeTexts.{IsDotBy}
use Rattle.feats_answers.proofs.edge_texts.answer_to_edge_dot.Goals as goal

pub returns-in-Packages : goal.returns-in-Packages
returns-in-Packages c =
    let w = workspace_text c.args.workspace.now in
    let words = words_text holds_on c.args.words.now in
    let files = map file_text c.args.asked.targets.now in
    subst (λ (e : Edges). IfOk c.dot_answer.result (λ a. IsDotBy e files w words (plan_text c.args.plan.now) (answer_text a))) (sym c.in-Packages.is) c.dot_answer.ensures

pub returns-in-Features : goal.returns-in-Features
returns-in-Features c =
    let w = workspace_text c.args.workspace.now in
    let words = words_text holds_on c.args.words.now in
    let files = map file_text c.args.asked.targets.now in
    subst (λ (e : Edges). IfOk c.feature_dot_answer.result (λ a. IsDotBy e files w words (plan_text c.args.plan.now) (answer_text a))) (sym c.in-Features.is) c.feature_dot_answer.ensures
