use Rattle.std.proofs.Common.{◌∙◌, ap, map}
use Rattle.std.proofs.lemmas.Result.{IfOk-weaker}
use Rattle.std.specs.Prelude.{zip}
use Rattle.cargo_plans.specs.built_parts.BuiltViews.{script_in, state_in}
use Rattle.cargo_plans.specs.WordsView.{words_text}
use Rattle.cargo_workspaces.specs.WorkspaceView.{workspace_text}
use Rattle.plan_rows.specs.platforms.HeldSpecs.{holds_on}
use Rattle.cargo_plans.specs.plan_steps.PlanViews.{plan_text}
use Rattle.plan_whys.specs.StepViews.{found_text}
use Rattle.feats_why_not.specs.PartView.{part_text}
use Rattle.feats_why_not.specs.inner.Lists.{answer_text, answers_by, optional_texts, texts_of, told_sections, told_value}
use Rattle.feats_why_not.proofs.FoundLemmas.{explained_by, messages_are, told_sections_are}
use Rattle.feats_why_not.proofs.widened_sections.explained_sections.Goals as goal

pub returns : goal.returns
returns c =
    let form = c.args.form in
    let w = workspace_text c.args.base.workspace.now in
    let here = words_text holds_on c.args.base.words.now in
    let words = words_text holds_on c.args.words.now in
    let v = c.args.widening in
    let plan = plan_text c.args.plan.now in
    let parts = map part_text c.args.parts.now in
    let builds = c.in_ok-builds.builds in
    let facts = c.in_ok-builds.ensures in
    let messages = c.in_ok-messages.messages.items in
    let are = messages_are w words plan (state_in builds.parts) (script_in builds.scripts) facts.parts facts.scripts builds.split parts (optional_texts messages) facts.split c.in_ok-messages.ensures in
    let answers = map answer_text c.in_ok-answers.answers.items in
    let by = c.in_ok-answers.ensures
    ∙ ap (λ ms. answers_by (optional_texts ms) (map found_text c.deref-3.result.now)) c.deref-2.ensures.value
    ∙ ap (λ fs. answers_by (optional_texts messages) (map found_text fs)) c.deref-3.ensures.value in
    let found = explained_by form c.args.base.alone w here words v plan (state_in builds.parts) parts (optional_texts messages)
    c.in_ok-spots.spots.items c.deref.result.now c.in_ok-founds.founds.items answers
    c.requires facts.parts are c.in_ok-spots.ensures c.deref.ensures.value c.in_ok-founds.ensures by in
    let pairs = c.in_ok-abouts.ensures ∙ ap (λ answers. zip parts (map answer_text answers)) c.deref-4.ensures.value in
    IfOk-weaker c.told_sections.result _ _ (λ sections shown.
    told_sections_are form c.args.base.alone w here words v parts answers c.in_ok-abouts.abouts.items c.deref-5.result.now (map told_value c.in_ok-tolds.tolds.items) (texts_of sections.items)
    found pairs c.deref-5.ensures.value c.in_ok-tolds.ensures
    (shown ∙ ap (λ tolds. told_sections form w.packages words v (map told_value tolds)) c.deref-6.ensures.value))
    c.told_sections.ensures
