use Rattle.std.proofs.Common.{◌∙◌, ap, map, refl}
use Rattle.std.proofs.lemmas.Result.{IfOk-weaker}
use Rattle.std.specs.Prelude.{string_bytes}
use Rattle.cargo_plans.specs.built_parts.BuiltViews.{script_in, state_in}
use Rattle.cargo_plans.specs.WordsView.{words_text}
use Rattle.cargo_plans.specs.plan_steps.PlanViews.{plan_text}
use Rattle.cargo_workspaces.specs.WorkspaceView.{workspace_text}
use Rattle.plan_rows.specs.platforms.HeldSpecs.{holds_on}
use Rattle.feats_why_not.specs.Answers.{message_in}
use Rattle.feats_why_not.specs.PartView.{part_text}
use Rattle.feats_why_not.specs.Parts.{title_of}
use Rattle.feats_why_not.specs.Texts.{head_text}
use Rattle.feats_why_not.specs.inner.Lists.{heads_by, optional_texts, pair_head}
use Rattle.feats_why_not.proofs.FoundLemmas.{messages_are}
use Rattle.feats_why_not.proofs.Zips.{zip_maps}
use Rattle.feats_why_not.proofs.texts.heads_of.Goals as goal

pub returns : goal.returns
returns c =
    let form = c.args.form in
    let w = workspace_text c.args.base.workspace.now in
    let words = words_text holds_on c.args.base.words.now in
    let plan = plan_text c.args.base.plan.now in
    let parts = map part_text c.args.parts.now in
    let builds = c.in_ok-builds.builds in
    let facts = c.in_ok-builds.ensures in
    let messages = c.in_ok-messages.messages.items in
    let are = messages_are w words plan (state_in builds.parts) (script_in builds.scripts) facts.parts facts.scripts builds.split parts (optional_texts messages) facts.split c.in_ok-messages.ensures in
    let titles = ap (map string_bytes) c.deref.ensures.value ∙ c.in_ok-titles.ensures in
    IfOk-weaker c.heads_by.result _ _ (λ heads h.
    h
    ∙ ap (λ ts. heads_by form ts (optional_texts c.deref-2.result.now)) titles
    ∙ ap (λ ms. heads_by form (map (title_of w.packages) parts) (optional_texts ms)) c.deref-2.ensures.value
    ∙ ap (λ ms. heads_by form (map (title_of w.packages) parts) ms) are
    ∙ zip_maps (pair_head form) (title_of w.packages) (message_in w words plan) (head_text form w words plan) (λ part. refl) parts) c.heads_by.ensures
