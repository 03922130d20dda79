use Rattle.std.proofs.Common.{◌∙◌, List, map, ap, sym}
use Rattle.std.specs.String.{string_bytes}
use Rattle.cargo_workspaces.specs.WorkspaceView.{workspace_text}
use Rattle.cargo_plans.specs.plan_steps.PlanViews.{plan_text}
use Rattle.plan_whys.specs.StepViews.{spot_text}
use Rattle.plan_whys.specs.declared.steps.Spot.{Spot}
use Rattle.feats_tree.specs.features.Titles.{labels_of}
use Rattle.feats_tree.proofs.FeaturesShown.{feature_graph}
use Rattle.feats_tree.proofs.features.dots.feature_dot.Goals as goal

pub returns : goal.returns
returns c =
    let packages = (workspace_text c.args.workspace.now).packages in
    feature_graph c.labelled_dot.result c.args.sides packages (plan_text c.args.plan.now) (map spot_text c.in_ok-spots.spots.items) (map spot_text c.deref-2.result.now)
    (map string_bytes c.deref-3.result.now) c.in_ok-links.links.items c.deref-4.result.now
    c.in_ok-spots.ensures (ap (map spot_text) c.deref-2.ensures.value) c.in_ok-links.ensures c.deref-4.ensures.value
    (ap (map string_bytes) c.deref-3.ensures.value ∙ c.in_ok-labels.ensures
    ∙ ap (λ (ss : List Spot). labels_of packages c.args.sides (map spot_text ss)) (c.deref.ensures.value ∙ sym c.deref-2.ensures.value))
    c.labelled_dot.ensures
