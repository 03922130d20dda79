use Rattle.std.proofs.Common.{◌∙◌, List, ap, map, subst}
use Rattle.std.specs.List.{AllZip}
use Rattle.cargo_plans.specs.WordsView.{words_text}
use Rattle.cargo_workspaces.specs.WorkspaceView.{workspace_text}
use Rattle.plan_names.specs.Views.{named_text}
use Rattle.plan_rows.specs.platforms.HeldSpecs.{holds_on}
use Rattle.cargo_plans.specs.plan_steps.PlanViews.{plan_text}
use Rattle.feats_why_not.specs.PartView.{part_text}
use Rattle.feats_why_not.specs.Parts.{PartText}
use Rattle.feats_why_not.specs.Texts.{IsWhyNotText}
use Rattle.feats_why_not.specs.Typed.{is_single}
use Rattle.feats_answers.specs.AnswerViews.{texts_of}
use Rattle.feats_answers.specs.Gathered.{gathered}
use Rattle.feats_answers.specs.WhyNotTexts.{off_parts, on_end}
use Rattle.feats_answers.proofs.answers.why_not_answer.Goals as goal

pub returns-clause-answer : goal.returns-clause-answer
returns-clause-answer c =
    let w = workspace_text c.args.workspace.now in
    let words = words_text holds_on c.args.words.now in
    let every = holds_on c.in_ok-every.every in
    let plan = plan_text c.args.plan.now in
    let form = c.args.format in
    let named = c.in_ok-named.named.items in
    let shown = texts_of c.in_ok-texts.texts.items in
    record {
      every = every;
      is_every = c.in_ok-every.ensures;
      parts = map named_text named;
      are_parts = c.in_ok-named.ensures.parts;
      shown = shown;
      are_shown = subst (λ (parts : List PartText). AllZip (IsWhyNotText form (is_single parts) w words every) parts shown)
          (ap (map part_text) c.deref-2.ensures.value ∙ c.in_ok-off.ensures ∙ ap (λ ns. off_parts words.selection.split plan (map named_text ns)) c.deref.ensures.value) c.in_ok-texts.ensures;
      is_answer = c.in_ok-gathered.ensures
          ∙ ap (λ ns. gathered form w.packages c.args.word.now (map named_text ns) on_end (texts_of c.deref-4.result.now)) c.deref-3.ensures.value
          ∙ ap (λ ts. gathered form w.packages c.args.word.now (map named_text named) on_end (texts_of ts)) c.deref-4.ensures.value;
    }
