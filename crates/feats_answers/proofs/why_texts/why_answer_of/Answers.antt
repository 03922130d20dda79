use Rattle.std.proofs.Common.{◌∙◌, ap, map, sym}
use Rattle.std.proofs.lemmas.Result.{IfOk-weaker}
use Rattle.cargo_plans.specs.built_parts.BuiltViews.{is_built_in, state_in}
use Rattle.cargo_plans.specs.WordsView.{words_text}
use Rattle.cargo_plans.specs.plan_steps.PlanViews.{plan_text}
use Rattle.cargo_workspaces.specs.WorkspaceView.{workspace_text}
use Rattle.plan_names.specs.Views.{named_text}
use Rattle.plan_rows.specs.platforms.HeldSpecs.{holds_on}
use Rattle.plan_whys.specs.StepViews.{spot_text}
use Rattle.feats_answers.specs.AnswerViews.{answer_text, texts_of}
use Rattle.feats_answers.specs.BuiltSpots.{unbuilt_text_of}
use Rattle.feats_answers.proofs.Built.{none_shown, why_answer}
use Rattle.feats_answers.proofs.why_texts.why_answer_of.Goals as goal

pub returns : goal.returns
returns c =
    let w = workspace_text c.args.workspace.now in
    let words = words_text holds_on c.args.words.now in
    let plan = plan_text c.args.plan.now in
    let texts = c.in_ok-texts.texts in
    IfOk-weaker c.answer_of.result _ _ (λ answer is.
    why_answer c.args.asked.format c.args.asked.all w words plan c.args.asked.word.now (map named_text c.args.named.now) (answer_text answer)
    (texts_of texts.items) (texts_of c.deref-3.result.now) c.in_ok-lines.lines.items c.is_empty-is_negative.result (map spot_text c.deref.result.now) (state_in c.in_ok-parts.parts) (is_built_in c.in_ok-parts.parts)
    (ap (map spot_text) c.deref.ensures.value ∙ c.in_ok-spots.ensures) c.in_ok-parts.ensures.parts c.in_ok-parts.ensures.built c.in_ok-texts.ensures
    (c.in_ok-lines.ensures ∙ ap (λ ss. unbuilt_text_of c.args.asked.format w.packages words (state_in c.in_ok-parts.parts) (is_built_in c.in_ok-parts.parts) (map spot_text ss)) (c.deref-2.ensures.value ∙ sym c.deref.ensures.value))
    (ap texts_of c.deref-3.ensures.value ∙ c.in_ok-push_unless_empty.ensures) (none_shown texts c.is_empty-is_negative.result c.is_empty-is_negative.ensures) is)
    c.answer_of.ensures
