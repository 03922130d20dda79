use Rattle.std.proofs.Common.{subst}
use Rattle.digraphs.specs.Bits.{has}
use Rattle.cargo_workspaces.specs.WorkspaceView.{workspace_text}
use Rattle.cargo_plans.specs.plan_rows.SettingsView.{settings_text}
use Rattle.plan_whys.proofs.Listed.{tables_here}
use Rattle.plan_whys.proofs.Visits.{OneContent, on_least, starts_are}
use Rattle.plan_whys.proofs.whys.initials_of.Goals as goal

pub returns-clause-least : goal.returns-clause-least
returns-clause-least g c =
    let w = workspace_text c.args.workspace.now in
    let s = settings_text g.P.Platform.holds c.args.settings.now in
    let on = c.args.on.now in
    on_least w s on (has c.in_ok-set.set) (subst OneContent (tables_here on c.visited.result.now c.packages.result.now c.visited.ensures c.packages.ensures) c.one_content.ensures) c.requires.on
    (starts_are w s on c.visited-2.result.now c.in_ok-places.places.items c.deref.result.now (has c.in_ok-set.set) c.visited-2.ensures c.in_ok-places.ensures c.deref.ensures.value c.in_ok-set.ensures.nodes)
