use Rattle.cargo_workspaces.specs.WorkspaceView.{workspace_text}
use Rattle.plan_rows.specs.SettingsView.{settings_text}
use Rattle.plan_starts.specs.StartViews.{starts_text}
use Rattle.cargo_plans.proofs.StepVisits.{built_visit}
use Rattle.cargo_plans.proofs.plan_steps.built_step.visited.Goals as goal

pub returns : goal.returns
returns g c =
    built_visit (workspace_text c.args.workspace.now) (settings_text g.P.Platform.holds c.args.settings.now) c.args.on.now (starts_text c.args.starts.now) c.args.places.now c.args.tables c.visit.result
    c.requires.tables c.requires.places c.visit.ensures
