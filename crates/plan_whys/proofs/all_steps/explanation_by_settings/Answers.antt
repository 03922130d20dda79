use Rattle.std.proofs.Common.{map, subst}
use Rattle.digraphs.specs.Bits.{has}
use Rattle.cargo_workspaces.specs.WorkspaceView.{workspace_text}
use Rattle.cargo_plans.specs.plan_rows.SettingsView.{settings_text}
use Rattle.cargo_plans.specs.plan_starts.PackageVisits.{PairVisit}
use Rattle.plan_whys.specs.AllSteps.{ExplainsOn}
use Rattle.plan_whys.specs.StepViews.{why_text}
use Rattle.plan_whys.proofs.Visits.{steps_by_starts}
use Rattle.plan_whys.proofs.all_steps.explanation_by_settings.Goals as goal

pub returns-clause-steps : goal.returns-clause-steps
returns-clause-steps g c =
    let w = workspace_text c.args.workspace.now in
    let s = settings_text g.P.Platform.holds c.args.settings.now in
    subst (λ (on : PairVisit). ExplainsOn w s on (map why_text c.in_ok-whys.whys.items)) c.on-on.ensures
    (steps_by_starts w s c.on-on.result.now (has c.in_ok-initials.initials) (map why_text c.in_ok-whys.whys.items) c.in_ok-initials.ensures.nodes c.in_ok-whys.ensures.steps)
