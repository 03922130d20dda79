use Rattle.std.proofs.Common.{◌∙◌, ap}
use Rattle.std.proofs.lemmas.Result.{IfOk-weaker}
use Rattle.cargo_plans.specs.built_parts.Built.{is_built}
use Rattle.cargo_plans.specs.built_parts.BuiltViews.{is_built_in}
use Rattle.cargo_plans.specs.plan_steps.PlanViews.{plan_text}
use Rattle.cargo_workspaces.specs.WorkspaceView.{workspace_text}
use Rattle.page_data.specs.Arrays.{array_of_lines}
use Rattle.feats_report.specs.Declarations.{declarations_of}
use Rattle.feats_report.specs.Features.{features_of}
use Rattle.feats_report.proofs.PartsLemmas.{same_data}
use Rattle.feats_report.proofs.report.report_text.Goals as goal

-- the parts are those of the plan
pub returns-clause-report : goal.returns-clause-report
returns-clause-report g c =
    let packages = (workspace_text c.args.workspace.now).packages in
    let built = c.in_ok-built.built in
    let builds = is_built c.args.words.now.selection.split (plan_text c.args.plan.now).units in
    IfOk-weaker c.data_of.result _ _ (λ text h. record {
      links = c.in_ok-links.links.items;
      is_links = c.in_ok-links.ensures;
      steps = c.in_ok-steps.steps.items;
      is_steps = c.in_ok-steps.ensures;
      is_text = h ∙ same_data _ _ _ _ _ _ _ _ _ _ _ _ _ _
          (c.deref.ensures.value ∙ c.in_ok-units.ensures.text)
          (c.deref-2.ensures.value ∙ c.in_ok-roots.ensures)
          c.deref-3.ensures.value
          (c.deref-4.ensures.value ∙ c.in_ok-declarations.ensures ∙ ap (λ f. array_of_lines (declarations_of f packages)) c.in_ok-built.ensures.packages)
          c.deref-5.ensures.value
          (c.deref-6.ensures.value ∙ c.in_ok-features.ensures
          ∙ ap (λ f. array_of_lines (features_of f (is_built_in built) packages)) c.in_ok-built.ensures.packages
          ∙ ap (λ f. array_of_lines (features_of builds f packages)) c.in_ok-built.ensures.built)
          (c.deref-7.ensures.value ∙ c.in_ok-specs.ensures.text);
    }) c.data_of.ensures.text
