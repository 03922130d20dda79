use Rattle.std.proofs.Common.{◌∙◌, List, ap, map, subst}
use Rattle.std.proofs.lemmas.Result.{IfOk-weaker}
use Rattle.cargo_plans.specs.WordsView.{words_text}
use Rattle.cargo_plans.specs.plan_steps.PlanViews.{plan_text}
use Rattle.cargo_workspaces.specs.WorkspaceView.{workspace_text}
use Rattle.plan_rows.specs.platforms.HeldSpecs.{holds_on}
use Rattle.plan_whys.specs.Steps.{SpotText}
use Rattle.plan_whys.specs.StepViews.{spot_text}
use Rattle.feats_answers.specs.AnswerViews.{texts_of}
use Rattle.feats_answers.specs.Gathered.{AreShown}
use Rattle.feats_answers.specs.WhyTexts.{IsSpotShown}
use Rattle.feats_answers.proofs.why_texts.built_texts.Goals as goal

pub returns : goal.returns
returns c =
    let shown = IsSpotShown c.args.asked.format c.args.asked.all (workspace_text c.args.workspace.now) (words_text holds_on c.args.words.now) (plan_text c.args.plan.now) in
    IfOk-weaker c.spot_texts.result _ _ (λ texts shows.
    subst (λ (ss : List SpotText). AreShown shown ss (texts_of texts.items)) (ap (map spot_text) c.deref.ensures.value ∙ c.in_ok-built.ensures) shows)
    c.spot_texts.ensures
