use Rattle.std.proofs.Common.{Some}
use Rattle.std.proofs.lemmas.Result.{err_from_is_err_and}
use Rattle.cargo_workspaces.specs.WorkspaceView.{workspace_text}
use Rattle.plan_rows.specs.platforms.HeldSpecs.{holds_on}
use Rattle.feats_check.specs.checking.Answers.{IsRefusalWith}
use Rattle.feats_check.specs.checking.QuestionViews.{question_text}
use Rattle.feats_check.specs.checking.inner.PlannedViews.{scene_by}
use Rattle.feats_check.specs.checking.inner.WidePlans.{IsNoWidePlan, scenes_with}
use Rattle.feats_check.proofs.Refusals.{says_more}
use Rattle.feats_check.proofs.Scened.{answered, are_wide_scenes, unchecked, unplanned}
use Rattle.feats_check.proofs.checking.answers.answer_widely.Goals as goal

pub returns-clause-answer : goal.returns-clause-answer
returns-clause-answer c =
    let asked = question_text c.args.asked in
    let every = holds_on c.args.every.now in
    let here = scene_by (workspace_text c.args.workspace.now) c.args.selected.now asked c.args.here in
    let words = c.wide_words-words.result in
    let plans = c.in_ok-plans.plans in
    answered asked here (Some every) (scenes_with here asked words plans) (are_wide_scenes asked here every words plans c.wide_words-words.ensures.all c.wide_words-words.ensures.widest c.in_ok-plans.ensures.plans)
    c.printed_with-printed.result c.printed_with-printed.ensures.text

pub returns-clause-fault : goal.returns-clause-fault
returns-clause-fault c =
    let asked = question_text c.args.asked in
    let every = holds_on c.args.every.now in
    let here = scene_by (workspace_text c.args.workspace.now) c.args.selected.now asked c.args.here in
    let words = c.wide_words-words.result in
    let plans = c.in_ok-plans.plans in
    unchecked asked here (Some every) (scenes_with here asked words plans) (are_wide_scenes asked here every words plans c.wide_words-words.ensures.all c.wide_words-words.ensures.widest c.in_ok-plans.ensures.plans)
    c.printed_with-printed.result c.printed_with-printed.ensures.fault

pub returns-in_err-plans-clause-fault : goal.returns-in_err-plans-clause-fault
returns-in_err-plans-clause-fault c =
    let p = err_from_is_err_and c.from_residual.result c.from_residual.ensures.1 in
    let w = workspace_text c.args.workspace.now in
    let asked = question_text c.args.asked in
    let every = holds_on c.args.every.now in
    let here = scene_by w c.args.selected.now asked c.args.here in
    let words = c.wide_words-words.result in
    rw (p.1, p.2) (says_more c.in_err-plans.field-0.0 (IsNoWidePlan w words) (IsRefusalWith here asked (Some every))
    (λ m h. unplanned asked here every words m c.wide_words-words.ensures.all c.wide_words-words.ensures.widest h) c.in_err-plans.ensures.fault)
