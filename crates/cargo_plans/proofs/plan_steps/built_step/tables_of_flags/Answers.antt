use Rattle.cargo_workspaces.specs.WorkspaceView.{workspace_text}
use Rattle.plan_rows.specs.SettingsView.{settings_text}
use Rattle.plan_rows.specs.StepRowsView.{row_texts}
use Rattle.plan_starts.specs.StartViews.{starts_text}
use Rattle.cargo_plans.proofs.StepVisits.{built_tables}
use Rattle.cargo_plans.proofs.plan_steps.built_step.tables_of_flags.Goals as goal

pub returns : goal.returns
returns g c =
    built_tables (workspace_text c.args.workspace.now) (settings_text g.P.Platform.holds c.args.settings.now) c.args.on.now (starts_text c.args.starts.now) c.args.with_dev.now (row_texts c.in_ok-rows.rows) c.package_graph.result
    c.requires.flags c.in_ok-rows.ensures c.package_graph.ensures
