use Rattle.std.proofs.Common.{◌∙◌, ap, map}
use Rattle.std.proofs.lemmas.Result.{IfOk-weaker}
use Rattle.std.specs.String.{string_bytes}
use Rattle.cargo_plans.specs.WordsView.{words_text}
use Rattle.cargo_workspaces.specs.WorkspaceView.{workspace_text}
use Rattle.plan_rows.specs.platforms.HeldSpecs.{holds_on}
use Rattle.plan_whys.specs.StepViews.{found_text}
use Rattle.feats_why.specs.Views.{steps_text}
use Rattle.feats_check.proofs.RuleTexts.{founds_lined}
use Rattle.feats_check.proofs.checking.lines.lines_of_founds.Goals as goal

pub returns : goal.returns
returns c = IfOk-weaker c.each_why_lines.result _ _ (λ lines are.
    founds_lined (workspace_text c.args.workspace.now).packages (words_text holds_on c.args.words.now) _ (map found_text c.args.founds.now) (map steps_text c.deref.result.now) (map string_bytes lines.items)
    c.settings_of.ensures (ap (map steps_text) c.deref.ensures.value ∙ c.in_ok-lists.ensures) are) c.each_why_lines.ensures
