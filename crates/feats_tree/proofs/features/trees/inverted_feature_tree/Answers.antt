use Rattle.std.proofs.Common.{◌∙◌, List, map, ap, sym}
use Rattle.cargo_workspaces.specs.WorkspaceView.{workspace_text}
use Rattle.cargo_plans.specs.plan_steps.PlanViews.{plan_text}
use Rattle.plan_whys.specs.StepViews.{spot_text}
use Rattle.plan_whys.specs.declared.steps.Spot.{Spot}
use Rattle.feats_tree.specs.features.Roots.{wanted_spots}
use Rattle.feats_tree.proofs.FeaturesShown.{inverted_trees}
use Rattle.feats_tree.proofs.features.trees.inverted_feature_tree.Goals as goal

pub returns : goal.returns
returns c =
    let wanted = map spot_text c.args.wanted.now in
    inverted_trees c.turned_tree.result c.args.form c.args.sides (workspace_text c.args.workspace.now).packages (plan_text c.args.plan.now) c.args.limit
    (map spot_text c.in_ok-spots.spots.items) (map spot_text c.deref-2.result.now) c.in_ok-links.links.items c.deref-3.result.now
    c.in_ok-spots.ensures (ap (map spot_text) c.deref-2.ensures.value) c.in_ok-links.ensures c.deref-3.ensures.value wanted c.deref-4.result.now
    (c.deref-4.ensures.value ∙ c.in_ok-roots.ensures ∙ ap (λ (ss : List Spot). wanted_spots wanted (map spot_text ss)) (c.deref.ensures.value ∙ sym c.deref-2.ensures.value))
    c.turned_tree.ensures
