use Rattle.std.proofs.Common.{Some, map, take}
use Rattle.cargo_workspaces.specs.WorkspaceView.{workspace_text}
use Rattle.feats_policies.specs.Views.{rule_text}
use Rattle.feats_check.specs.checking.QuestionViews.{question_text}
use Rattle.feats_check.specs.checking.inner.PlannedViews.{scenes_by}
use Rattle.feats_check.proofs.Printed.{IsSo}
use Rattle.feats_check.proofs.checking.rules.printed_each.Given as goal

abbrev pub invariant-loop-rule : goal.invariant-loop-rule
invariant-loop-rule l =
    let asked = question_text l.asked in
    IsSo asked (scenes_by (workspace_text l.workspace) l.selected asked l.here (Some l.wide)) (map rule_text (take l.rule-index l.asked.rules.now)) l.printed.text.items l.printed.is_broken
