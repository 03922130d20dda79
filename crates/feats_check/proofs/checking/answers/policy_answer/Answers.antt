use Rattle.std.proofs.Common.{ℕ, List, subst}
use Rattle.std.proofs.lemmas.Result.{IfOk-weaker}
use Rattle.cargo_plans.specs.WordsView.{words_text}
use Rattle.cargo_workspaces.specs.WorkspaceView.{workspace_text}
use Rattle.plan_rows.specs.platforms.HeldSpecs.{holds_on}
use Rattle.cargo_plans.specs.plan_steps.PlanViews.{plan_text}
use Rattle.plan_words.specs.Choices.{chosen_text}
use Rattle.feats_check.specs.checking.Answers.{IsAnswerWith, IsPolicyRefusal, IsRefusalWith}
use Rattle.feats_check.specs.checking.QuestionViews.{printed_text, question_text}
use Rattle.feats_check.specs.checking.Scenes.{scene_of}
use Rattle.feats_policies.specs.declared.checks.judged.Judged.TheVariants.{InBuild}
use Rattle.feats_check.proofs.Scened.{err_more}
use Rattle.feats_check.proofs.checking.answers.policy_answer.Goals as goal

pub returns-in-Ok-clause-answer : goal.returns-in-Ok-clause-answer
returns-in-Ok-clause-answer c =
    let w = workspace_text c.args.workspace.now in
    let words = words_text holds_on c.args.words.now in
    let plan = plan_text c.args.plan.now in
    let asked = question_text c.args.asked in
    IfOk-weaker c.answer_about.result _ _ (λ printed is. record {
      chosen = chosen_text c.in-Ok.chosen;
      are_accepted = c.in-Ok.ensures.chosen;
      holds = subst (λ (numbers : List ℕ). IsAnswerWith (scene_of w numbers asked words plan InBuild) asked asked.every (printed_text printed)) c.deref.ensures.value is;
    }) c.answer_about.ensures.answer

pub returns-in-Ok-clause-fault : goal.returns-in-Ok-clause-fault
returns-in-Ok-clause-fault c =
    let w = workspace_text c.args.workspace.now in
    let words = words_text holds_on c.args.words.now in
    let plan = plan_text c.args.plan.now in
    let asked = question_text c.args.asked in
    err_more c.answer_about.result (IsRefusalWith (scene_of w c.deref.result.now asked words plan InBuild) asked asked.every) (IsPolicyRefusal w words plan asked)
    (λ m says. record {
      chosen = chosen_text c.in-Ok.chosen;
      are_accepted = c.in-Ok.ensures.chosen;
      holds = subst (λ (numbers : List ℕ). IsRefusalWith (scene_of w numbers asked words plan InBuild) asked asked.every m) c.deref.ensures.value says;
    }) c.answer_about.ensures.fault
