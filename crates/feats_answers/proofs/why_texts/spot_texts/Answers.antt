use Rattle.std.proofs.Common.{map, refl}
use Rattle.std.proofs.lemmas.Result.{IfOk-weaker}
use Rattle.cargo_plans.specs.WordsView.{words_text}
use Rattle.cargo_workspaces.specs.WorkspaceView.{workspace_text}
use Rattle.plan_rows.specs.platforms.HeldSpecs.{holds_on}
use Rattle.cargo_plans.specs.plan_steps.PlanViews.{plan_text}
use Rattle.plan_whys.specs.StepViews.{spot_text}
use Rattle.feats_answers.specs.AnswerViews.{texts_of}
use Rattle.feats_answers.proofs.Found.{whys_shown}
use Rattle.feats_answers.proofs.why_texts.spot_texts.Goals as goal

pub returns : goal.returns
returns c =
    IfOk-weaker c.founds_shown.result _ _ (λ texts shows.
    whys_shown c.args.format c.args.all (workspace_text c.args.workspace.now) (words_text holds_on c.args.words.now) (plan_text c.args.plan.now) (map spot_text c.args.spots.now)
    c.args.spots.now c.args.spots.now c.in_ok-founds.founds.items c.deref.result.now (texts_of texts.items)
    refl refl c.in_ok-founds.ensures c.deref.ensures.value shows)
    c.founds_shown.ensures
