use Rattle.std.proofs.Common.{◌∙◌, map, subst, sym}
use Rattle.cargo_workspaces.specs.Views.{package_text, texts}
use Rattle.cargo_workspaces.specs.WorkspaceView.{workspace_text}
use Rattle.plan_whys.specs.links.UnitLinks.{AreUnitLinks}
use Rattle.cargo_plans.specs.plan_steps.PlanViews.{plan_text}
use Rattle.cargo_plans.specs.plan_units.UnitViews.{unit_text}
use Rattle.feats_tree.proofs.PackagesShown.{package_trees}
use Rattle.feats_tree.proofs.packages.trees.package_tree.Goals as goal

pub returns : goal.returns
returns c =
    let plan = plan_text c.args.plan.now in
    package_trees c.unit_tree.result c.args.form (texts c.args.names.now) (workspace_text c.args.workspace.now).packages plan c.args.limit c.deref.result.now c.deref-2.result.now
    (texts c.shown.result.names.now) (map package_text c.shown.result.packages.now) (map unit_text c.shown.result.units.now)
    (subst (AreUnitLinks plan) (sym c.deref.ensures.value) c.in_ok-links.ensures) (c.deref-2.ensures.value ∙ c.in_ok-roots.ensures)
    c.shown.ensures.names c.shown.ensures.packages c.shown.ensures.units c.unit_tree.ensures
