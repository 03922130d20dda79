use Rattle.std.proofs.Common.{subst}
use Rattle.cargo_workspaces.specs.WorkspaceView.{workspace_text}
use Rattle.plan_rows.specs.SettingsView.{settings_text}
use Rattle.plan_starts.specs.Starts.{Starts}
use Rattle.cargo_plans.specs.plan_steps.inner.Stages.{Builds}
use Rattle.cargo_plans.proofs.plan_steps.stages.build_of.Goals as goal

pub returns : goal.returns
returns g c =
    subst (λ (from : Starts). Builds (workspace_text c.args.workspace.now) (settings_text g.P.Platform.holds c.args.settings.now) c.args.on.now from c.checked_build.result) c.in_ok-starts.ensures c.checked_build.ensures
