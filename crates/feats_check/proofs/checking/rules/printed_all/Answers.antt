use Rattle.std.proofs.Common.{◌≡◌, length, map, nat_eq, rules}
use Rattle.cargo_workspaces.specs.WorkspaceView.{workspace_text}
use Rattle.feats_policies.specs.Views.{rule_text}
use Rattle.feats_check.specs.checking.QuestionViews.{question_text}
use Rattle.feats_check.specs.checking.inner.PlannedViews.{scene_by}
use Rattle.feats_check.proofs.Refusals.{first_refused}
use Rattle.feats_check.proofs.checking.rules.printed_all.Goals as goal
use Rattle.feats_policies.specs.checks.Views.{refusal_text, verdict_text}
use Rattle.feats_check.proofs.Verdicts.{all_printed}

pub returns-in-Err-clause-fault : goal.returns-in-Err-clause-fault
returns-in-Err-clause-fault c =
    let asked = question_text c.args.asked in
    let scene = scene_by (workspace_text c.args.workspace.now) c.args.selected.now asked c.args.planned in
    first_refused asked scene (map rule_text c.args.rules.now) c.check_refused.result (refusal_text c.in-Err.fault) c.in-Err.ensures.fault c.check_refused.ensures

pub returns-in_ok-text-in-Ok-clause-text : goal.returns-in_ok-text-in-Ok-clause-text
returns-in_ok-text-in-Ok-clause-text c =
    let asked = question_text c.args.asked in
    let scene = scene_by (workspace_text c.args.workspace.now) c.args.selected.now asked c.args.planned in
    let empty : c.is_empty-is_broken.result ≡ nat_eq (length c.in-Ok.verdicts.items) 0 = search rules in
    all_printed verdict_text asked scene (map rule_text c.args.rules.now) c.in-Ok.verdicts.items c.deref.result.now c.in_ok-text-in-Ok.text.items c.is_empty-is_broken.result c.in-Ok.ensures.verdicts c.deref.ensures.value
    c.in_ok-text-in-Ok.ensures empty
