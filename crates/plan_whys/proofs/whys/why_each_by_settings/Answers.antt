use Rattle.std.proofs.Common.{subst}
use Rattle.digraphs.specs.Bits.{has}
use Rattle.cargo_workspaces.specs.WorkspaceView.{workspace_text}
use Rattle.cargo_plans.specs.plan_rows.SettingsView.{settings_text}
use Rattle.cargo_plans.specs.plan_starts.PackageVisits.{PairVisit}
use Rattle.plan_whys.specs.Whys.{AnswersEach}
use Rattle.plan_whys.proofs.Visits.{each_answered}
use Rattle.plan_whys.proofs.whys.why_each_by_settings.Goals as goal

pub returns : goal.returns
returns g c =
    let w = workspace_text c.args.workspace.now in
    let s = settings_text g.P.Platform.holds c.args.settings.now in
    subst (λ (on : PairVisit). AnswersEach w s on c.args.spots.now c.in_ok-founds.founds.items) c.on-on.ensures
    (each_answered w s c.on-on.result.now (has c.in_ok-initials.initials) c.args.spots.now c.in_ok-founds.founds.items c.in_ok-initials.ensures.nodes c.in_ok-founds.ensures)
