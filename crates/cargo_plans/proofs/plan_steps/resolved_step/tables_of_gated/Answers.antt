use Rattle.cargo_workspaces.specs.WorkspaceView.{workspace_text}
use Rattle.plan_rows.specs.SettingsView.{settings_text}
use Rattle.plan_rows.specs.StepRowsView.{row_texts}
use Rattle.cargo_plans.proofs.StepVisits.{resolved_tables}
use Rattle.cargo_plans.proofs.plan_steps.resolved_step.tables_of_gated.Goals as goal

pub returns : goal.returns
returns g c =
    resolved_tables (workspace_text c.args.workspace.now) (settings_text g.P.Platform.holds c.args.settings.now) (row_texts c.in_ok-rows.rows) c.package_graph.result c.in_ok-rows.ensures c.package_graph.ensures
