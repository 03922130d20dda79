use Rattle.std.proofs.Common.{◌∙◌, None, map, subst, sym}
use Rattle.std.specs.Prelude.{option_map}
use Rattle.digraphs.specs.Bits.{has}
use Rattle.cargo_workspaces.specs.WorkspaceView.{workspace_text}
use Rattle.cargo_plans.specs.plan_rows.SettingsView.{settings_text}
use Rattle.cargo_plans.specs.plan_starts.PackageVisits.{PairVisit}
use Rattle.plan_whys.specs.StepViews.{spot_text, why_text}
use Rattle.plan_whys.specs.Whys.{Answers}
use Rattle.plan_whys.proofs.Visits.{answers_by_node, off_without_node}
use Rattle.plan_whys.proofs.whys.why_by_settings.Goals as goal

pub returns-in-None : goal.returns-in-None
returns-in-None g c =
    let w = workspace_text c.args.workspace.now in
    let s = settings_text g.P.Platform.holds c.args.settings.now in
    subst (λ (on : PairVisit). Answers w s on (spot_text c.args.at) None) c.on-on.ensures
    (off_without_node w s c.on-on.result.now (spot_text c.args.at) c.node_of.result c.in-None.is c.node_of.ensures)

pub returns-in_ok-found-in-Some : goal.returns-in_ok-found-in-Some
returns-in_ok-found-in-Some g c =
    let w = workspace_text c.args.workspace.now in
    let s = settings_text g.P.Platform.holds c.args.settings.now in
    let found = option_map (λ whys. map why_text whys.items) c.in_ok-found-in-Some.found in
    subst (λ (on : PairVisit). Answers w s on (spot_text c.args.at) found) c.on-on.ensures
    (answers_by_node w s c.on-on.result.now (spot_text c.args.at) (has c.in_ok-initials-in-Some.initials) c.in-Some.node found (sym c.in-Some.is ∙ c.node_of.ensures)
    c.in_ok-initials-in-Some.ensures.nodes c.in_ok-found-in-Some.ensures)
