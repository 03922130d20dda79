use Rattle.std.proofs.Common.{map, ap}
use Rattle.cargo_workspaces.specs.WorkspaceView.{workspace_text}
use Rattle.cargo_plans.specs.plan_steps.PlanViews.{plan_text}
use Rattle.plan_whys.specs.StepViews.{spot_text}
use Rattle.feats_tree.proofs.FeaturesShown.{feature_trees}
use Rattle.feats_tree.proofs.features.trees.feature_tree.Goals as goal

pub returns : goal.returns
returns c =
    feature_trees c.asked_tree.result c.args.form c.args.sides (workspace_text c.args.workspace.now).packages (plan_text c.args.plan.now) c.args.limit
    (map spot_text c.in_ok-spots.spots.items) (map spot_text c.deref.result.now) c.in_ok-links.links.items c.deref-2.result.now
    c.in_ok-spots.ensures (ap (map spot_text) c.deref.ensures.value) c.in_ok-links.ensures c.deref-2.ensures.value c.asked_tree.ensures
