use Rattle.std.proofs.Common.{◌∙◌, ap, map}
use Rattle.std.proofs.lemmas.Result.{IfOk-weaker}
use Rattle.cargo_plans.specs.WordsView.{words_text}
use Rattle.cargo_workspaces.specs.WorkspaceView.{workspace_text}
use Rattle.plan_rows.specs.platforms.HeldSpecs.{holds_on}
use Rattle.plan_whys.specs.StepViews.{reasoned_text as reasoned_view}
use Rattle.feats_answers.specs.WhyTexts.{reasoned_text}
use Rattle.feats_answers.proofs.why_texts.text_with_reasons.Goals as goal

pub returns : goal.returns
returns c =
    IfOk-weaker c.reasoned_text.result _ _ (λ text is. record {
      reasoned = map reasoned_view c.in_ok-reasoned.reasoned.items;
      are_reasoned = c.in_ok-reasoned.ensures;
      is_text = is ∙ ap (λ steps. reasoned_text c.args.format (workspace_text c.args.workspace.now).packages (words_text holds_on c.args.words.now) (map reasoned_view steps)) c.deref.ensures.value;
    }) c.reasoned_text.ensures
