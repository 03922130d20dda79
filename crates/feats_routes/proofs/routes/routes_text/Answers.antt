use Rattle.std.proofs.Common.{◌∙◌, ap, map}
use Rattle.std.specs.String.{string_bytes}
use Rattle.cargo_plans.specs.WordsView.{words_text}
use Rattle.cargo_plans.specs.plan_steps.PlanViews.{plan_text}
use Rattle.cargo_plans.specs.plan_units.UnitViews.{unit_text}
use Rattle.cargo_workspaces.specs.Views.{package_text, texts}
use Rattle.cargo_workspaces.specs.WorkspaceView.{workspace_text}
use Rattle.feats_tree.specs.trees.Titles.{detail_text, title_text}
use Rattle.shortest_routes.specs.Routes.{route_text}
use Rattle.feats_routes.specs.Shown.{shown_text}
use Rattle.feats_routes.proofs.PlanRoutes.{text_shown, titles_shown}
use Rattle.feats_routes.proofs.routes.routes_text.Goals as goal

pub returns : goal.returns
returns g c =
    let names = texts c.args.names.now in
    let w = workspace_text c.args.workspace.now in
    let plan = plan_text c.args.plan.now in
    let packages = map package_text c.packages-packages.result.now in
    let titles = map title_text c.deref-3.result.now in
    text_shown c.text_of.result c.args.form names w (words_text g.P.Platform.holds c.args.words.now) plan c.args.«package» (map route_text c.in_ok-routes.routes.items) (map route_text c.deref-4.result.now)
    (shown_text g.P.Platform.holds c.shown_by-shown.result) _ packages titles c.in_ok-routes.ensures (ap (map route_text) c.deref-4.ensures.value) c.shown_by-shown.ensures c.settings_of.ensures c.packages-packages.ensures
    (titles_shown names packages packages w.packages (map unit_text c.units.result.now) (map unit_text c.units-2.result.now) plan.units (map string_bytes c.deref.result.now)
    (map detail_text c.deref-2.result.now) titles (ap (map title_text) c.deref-3.ensures.value ∙ c.in_ok-titles.ensures) (ap (map string_bytes) c.deref.ensures.value ∙ c.in_ok-unit_titles.ensures)
    (ap (map detail_text) c.deref-2.ensures.value ∙ c.in_ok-details.ensures) c.packages-packages.ensures c.packages-packages.ensures c.units.ensures c.units-2.ensures)
    c.text_of.ensures
