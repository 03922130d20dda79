use Rattle.std.proofs.Common.{Some}
use Rattle.std.proofs.lemmas.Result.{err_from_is_err_and}
use Rattle.cargo_workspaces.specs.WorkspaceView.{workspace_text}
use Rattle.feats_policies.specs.Views.{rule_text}
use Rattle.feats_check.specs.checking.QuestionViews.{printed_text, question_text}
use Rattle.feats_check.specs.checking.inner.PlannedViews.{scenes_by}
use Rattle.feats_check.proofs.Printed.{so_more}
use Rattle.feats_check.proofs.Refusals.{rules_refused}
use Rattle.feats_check.proofs.checking.rules.printed_each.Goals as goal

pub loop-rule-preserved : goal.loop-rule-preserved
loop-rule-preserved c =
    let asked = question_text c.args.asked in
    so_more asked (scenes_by (workspace_text c.args.workspace.now) c.args.selected.now asked c.args.here (Some c.args.wide)) rule_text c.args.asked.rules.now c.loop-rule.rule-index _ c.loop-rule.printed.text.items c.append.new.printed.text.items
    c.loop-rule.printed.is_broken c.append.new.printed.is_broken (printed_text c.in_ok-one.one) c.loop-rule-test.true c.loop-rule.invariant c.in_ok-one.ensures.text c.in_ok-append.ensures.text c.in_ok-append.ensures.is_broken

pub returns-in_err-one-clause-fault : goal.returns-in_err-one-clause-fault
returns-in_err-one-clause-fault c =
    let p = err_from_is_err_and c.from_residual.result c.from_residual.ensures.1 in
    let asked = question_text c.args.asked in
    let s = scenes_by (workspace_text c.args.workspace.now) c.args.selected.now asked c.args.here (Some c.args.wide) in
    rw (p.1, p.2) (rules_refused asked s rule_text c.args.asked.rules.now c.loop-rule.rule-index _ c.in_err-one.field-0.0 c.loop-rule-test.true c.loop-rule.invariant.can_be_checked c.in_err-one.ensures.fault)
