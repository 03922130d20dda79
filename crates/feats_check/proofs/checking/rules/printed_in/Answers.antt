use Rattle.std.proofs.Common.{ap, map}
use Rattle.std.proofs.lemmas.Result.{IfOk-weaker}
use Rattle.cargo_workspaces.specs.WorkspaceView.{workspace_text}
use Rattle.feats_policies.specs.Views.{rule_text}
use Rattle.feats_check.specs.checking.QuestionViews.{printed_text, question_text}
use Rattle.feats_check.specs.checking.inner.PlannedViews.{scene_by}
use Rattle.feats_check.proofs.Verdicts.{rule_printed}
use Rattle.feats_check.proofs.checking.rules.printed_in.Goals as goal

pub returns-clause-text : goal.returns-clause-text
returns-clause-text c =
    let asked = question_text c.args.asked in
    let scene = scene_by (workspace_text c.args.workspace.now) c.args.selected.now asked c.args.planned in
    IfOk-weaker c.printed_all.result _ _ (λ printed are. rule_printed asked scene (rule_text c.args.rule) (map rule_text c.from_ref.result.now) (printed_text printed) (ap (map rule_text) c.from_ref.ensures.value) are) c.printed_all.ensures.text
