use Rattle.std.proofs.Common.{length}
use Rattle.cargo_workspaces.specs.WorkspaceView.{workspace_text}
use Rattle.plan_rows.specs.SettingsView.{settings_text}
use Rattle.cargo_plans.specs.plan_steps.Plans.{IsOn}
use Rattle.cargo_plans.proofs.StepVisits.{counted}
use Rattle.cargo_plans.proofs.plan_steps.on_step.on_step.Goals as goal

pub returns : goal.returns
returns g c =
    let w = workspace_text c.args.workspace.now in
    counted (IsOn w (settings_text g.P.Platform.holds c.args.settings.now) c.args.kept.now) c.package_count.result (length w.packages) c.in_ok-visited.visited c.new.result c.new.ensures c.package_count.ensures c.in_ok-visited.ensures
