use Rattle.std.proofs.Common.{map}
use Rattle.std.proofs.lemmas.Result.{IfOk-weaker}
use Rattle.cargo_workspaces.specs.WorkspaceView.{workspace_text}
use Rattle.plan_whys.specs.StepViews.{found_text, spot_text}
use Rattle.feats_policies.specs.checks.Views.{verdict_text}
use Rattle.feats_check.specs.checking.QuestionViews.{question_text}
use Rattle.feats_check.specs.checking.inner.PlannedViews.{scene_by}
use Rattle.feats_check.proofs.Founds.{are_found}
use Rattle.feats_check.proofs.RuleTexts.{printed_from}
use Rattle.feats_check.proofs.checking.broken.text_of_verdicts.Goals as goal

pub returns : goal.returns
returns c =
    let asked = question_text c.args.asked in
    let scene = scene_by (workspace_text c.args.workspace.now) c.args.selected.now asked c.args.planned in
    IfOk-weaker c.text_with.result _ _ (λ text is.
    printed_from asked scene (map verdict_text c.args.verdicts.now) (map spot_text c.in_ok-spots.spots.items) (map found_text c.deref-2.result.now) text.items c.in_ok-spots.ensures
    (are_found scene c.in_ok-spots.spots.items c.deref.result.now c.in_ok-founds.founds.items c.deref-2.result.now c.deref.ensures.value c.deref-2.ensures.value c.in_ok-founds.ensures) is) c.text_with.ensures
