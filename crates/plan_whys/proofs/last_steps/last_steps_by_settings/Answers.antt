use Rattle.std.proofs.Common.{map, subst}
use Rattle.digraphs.specs.Bits.{has}
use Rattle.cargo_workspaces.specs.WorkspaceView.{workspace_text}
use Rattle.cargo_plans.specs.plan_rows.SettingsView.{settings_text}
use Rattle.cargo_plans.specs.plan_starts.PackageVisits.{PairVisit}
use Rattle.plan_whys.specs.LastSteps.{AreLastSteps}
use Rattle.plan_whys.specs.StepViews.{last_text, spot_text}
use Rattle.plan_whys.proofs.LastLemmas.{lasts_by_starts}
use Rattle.plan_whys.proofs.last_steps.last_steps_by_settings.Goals as goal

pub returns : goal.returns
returns g c =
    let w = workspace_text c.args.workspace.now in
    let s = settings_text g.P.Platform.holds c.args.settings.now in
    subst (λ (on : PairVisit). AreLastSteps w s on (map spot_text c.args.spots.now) (map last_text c.in_ok-lasts.lasts.items)) c.on-on.ensures
    (lasts_by_starts w s c.on-on.result.now (has c.in_ok-initials.initials) c.args.spots.now c.in_ok-lasts.lasts.items c.in_ok-initials.ensures.nodes c.in_ok-lasts.ensures)
