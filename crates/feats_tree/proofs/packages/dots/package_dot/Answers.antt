use Rattle.std.proofs.Common.{◌∙◌, ap, ap₂, map, subst, sym}
use Rattle.std.specs.String.{string_bytes}
use Rattle.cargo_workspaces.specs.Views.{texts}
use Rattle.cargo_workspaces.specs.WorkspaceView.{workspace_text}
use Rattle.plan_whys.specs.links.UnitLinks.{AreUnitLinks}
use Rattle.cargo_plans.specs.plan_steps.PlanViews.{plan_text}
use Rattle.cargo_plans.specs.plan_units.UnitViews.{unit_text}
use Rattle.feats_tree.specs.packages.Titles.{unit_title}
use Rattle.feats_tree.proofs.PackagesShown.{package_graph}
use Rattle.feats_tree.proofs.packages.dots.package_dot.Goals as goal

pub returns : goal.returns
returns c =
    let names = texts c.args.names.now in
    let plan = plan_text c.args.plan.now in
    package_graph c.titled_dot.result names (workspace_text c.args.workspace.now).packages plan (map unit_text c.units-2.result.now) (map string_bytes c.deref.result.now) c.deref-2.result.now
    (subst (AreUnitLinks plan) (sym c.deref-2.ensures.value) c.in_ok-links.ensures) c.units-2.ensures
    (ap (map string_bytes) c.deref.ensures.value ∙ c.in_ok-titles.ensures ∙ ap₂ (λ ps us. map (unit_title names ps) us) c.packages.ensures c.units.ensures)
    c.titled_dot.ensures
