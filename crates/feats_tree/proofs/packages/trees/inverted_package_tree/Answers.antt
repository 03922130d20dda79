use Rattle.std.proofs.Common.{◌∙◌, ap, map, subst, sym}
use Rattle.cargo_workspaces.specs.Views.{package_text, texts}
use Rattle.cargo_workspaces.specs.WorkspaceView.{workspace_text}
use Rattle.plan_whys.specs.links.UnitLinks.{AreUnitLinks}
use Rattle.cargo_plans.specs.plan_steps.PlanViews.{plan_text}
use Rattle.cargo_plans.specs.plan_units.UnitViews.{unit_text}
use Rattle.feats_tree.specs.packages.Trees.{AreTurned, units_of}
use Rattle.feats_tree.proofs.PackagesShown.{inverted_trees}
use Rattle.feats_tree.proofs.packages.trees.inverted_package_tree.Goals as goal

pub returns : goal.returns
returns c =
    let plan = plan_text c.args.plan.now in
    let links = c.deref.result.now in
    let turned_links : AreTurned links c.in_ok-turned.turned.items = record { same = c.in_ok-turned.ensures.same; ascend = c.in_ok-turned.ensures.sorted } in
    inverted_trees c.unit_tree.result c.args.form (texts c.args.names.now) (workspace_text c.args.workspace.now).packages plan c.args.«package» c.args.limit links c.deref-2.result.now c.deref-3.result.now
    (texts c.shown.result.names.now) (map package_text c.shown.result.packages.now) (map unit_text c.shown.result.units.now)
    (subst (AreUnitLinks plan) (sym c.deref.ensures.value) c.in_ok-links.ensures) (subst (AreTurned links) (sym c.deref-2.ensures.value) turned_links)
    (c.deref-3.ensures.value ∙ c.in_ok-roots.ensures ∙ ap (units_of c.args.«package») c.units.ensures)
    c.shown.ensures.names c.shown.ensures.packages c.shown.ensures.units c.unit_tree.ensures
