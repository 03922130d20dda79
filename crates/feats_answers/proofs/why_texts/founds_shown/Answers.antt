use Rattle.std.proofs.Common.{◌∙◌, ap, subst}
use Rattle.std.proofs.lemmas.List.{map-append}
use Rattle.cargo_plans.specs.WordsView.{words_text}
use Rattle.cargo_workspaces.specs.WorkspaceView.{workspace_text}
use Rattle.plan_rows.specs.platforms.HeldSpecs.{holds_on}
use Rattle.cargo_plans.specs.plan_steps.PlanViews.{plan_text}
use Rattle.plan_whys.specs.StepViews.{found_text}
use Rattle.feats_answers.specs.AnswerViews.{texts_of}
use Rattle.feats_answers.specs.WhyTexts.{IsFoundShown}
use Rattle.feats_answers.proofs.Shown.{shown_more}
use Rattle.feats_answers.proofs.why_texts.founds_shown.Goals as goal

pub loop-found-preserved : goal.loop-found-preserved
loop-found-preserved c =
    shown_more (IsFoundShown c.args.format c.args.all (workspace_text c.args.workspace.now).packages (words_text holds_on c.args.words.now) (plan_text c.args.plan.now)) found_text c.args.founds.now c.loop-found.found-index c.found-item.result
    (texts_of c.loop-found.texts.items) (texts_of c.in_ok-shown.shown.items) (texts_of c.append.new.self.items) c.loop-found-test.true c.loop-found.invariant
    (subst (λ z. IsFoundShown c.args.format c.args.all (workspace_text c.args.workspace.now).packages (words_text holds_on c.args.words.now) (plan_text c.args.plan.now) (found_text z) (texts_of c.in_ok-shown.shown.items)) c.found-item.is c.in_ok-shown.ensures)
    (ap texts_of c.in_ok-append.ensures.items ∙ map-append _ c.loop-found.texts.items c.in_ok-shown.shown.items)
