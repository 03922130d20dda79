use Rattle.cargo_workspaces.specs.WorkspaceView.{workspace_text}
use Rattle.plan_rows.specs.SettingsView.{settings_text}
use Rattle.cargo_plans.proofs.StageLemmas.{planned_so}
use Rattle.cargo_plans.proofs.plan_steps.plans.plan_of_visits.Goals as goal

pub returns : goal.returns
returns g c =
    planned_so (workspace_text c.args.workspace.now) (settings_text g.P.Platform.holds c.args.settings.now) c.args.selected.now c.args.kept.now c.args.on c.build_of-built.result c.planned.result
    c.requires.tests c.requires.targets c.requires.resolved c.requires.on c.build_of-built.ensures c.planned.ensures
