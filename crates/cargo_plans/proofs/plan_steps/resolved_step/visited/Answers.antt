use Rattle.cargo_workspaces.specs.WorkspaceView.{workspace_text}
use Rattle.plan_rows.specs.SettingsView.{settings_text}
use Rattle.cargo_plans.proofs.StepVisits.{resolved_visit}
use Rattle.cargo_plans.proofs.plan_steps.resolved_step.visited.Goals as goal

pub returns : goal.returns
returns g c =
    resolved_visit (workspace_text c.args.workspace.now) (settings_text g.P.Platform.holds c.args.settings.now) c.in_ok-places.places.items c.deref.result.now c.args.tables c.visit.result
    c.requires.tables c.in_ok-places.ensures c.deref.ensures.value c.visit.ensures
