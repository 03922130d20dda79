use Rattle.std.proofs.Common.{◌∙◌, map, subst, sym}
use Rattle.std.proofs.lemmas.Result.{IfOk-weaker}
use Rattle.cargo_plans.specs.WordsView.{words_text}
use Rattle.cargo_plans.specs.plan_steps.PlanViews.{plan_text}
use Rattle.cargo_workspaces.specs.Workspaces.{Text}
use Rattle.cargo_workspaces.specs.WorkspaceView.{workspace_text}
use Rattle.feats_files.specs.FileViews.{file_text}
use Rattle.feats_report.specs.Reports.{IsReport}
use Rattle.plan_rows.specs.platforms.HeldSpecs.{holds_on}
use Rattle.plan_rows.specs.platforms.Views.{declared_text}
use Rattle.feats_answers.specs.ReportTexts.{AreSpecsOf}
use Rattle.feats_answers.proofs.report_texts.report_of.Goals as goal

pub returns : goal.returns
returns c =
    let w = workspace_text c.args.workspace.now in
    let words = words_text holds_on c.args.words.now in
    let plan = plan_text c.args.plan.now in
    IfOk-weaker c.report_text.result _ _ (λ text is. record {
      specs = c.deref-2.result.now;
      are_specs = subst (AreSpecsOf (map file_text c.args.files.now) (map declared_text c.args.specs.now) words) (sym c.deref-2.ensures.value) c.in_ok-shown.ensures;
      is_report = subst (λ (units : Text). IsReport w words plan units c.deref-2.result.now text.items) (c.deref.ensures.value ∙ c.in_ok-units.ensures) is;
    }) c.report_text.ensures.report
