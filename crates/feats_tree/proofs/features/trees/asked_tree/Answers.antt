use Rattle.std.proofs.Common.{◌∙◌, map}
use Rattle.cargo_workspaces.specs.WorkspaceView.{workspace_text}
use Rattle.plan_whys.specs.StepViews.{spot_text}
use Rattle.feats_tree.specs.features.Links.{shown_links}
use Rattle.feats_tree.specs.features.Roots.{asked_spots}
use Rattle.feats_tree.specs.features.Titles.{spot_titles}
use Rattle.feats_tree.proofs.FeaturesShown.{tree_over}
use Rattle.feats_tree.proofs.features.trees.asked_tree.Goals as goal

pub returns : goal.returns
returns c =
    let spots = map spot_text c.args.titled.spots.now in
    tree_over c.spot_tree.result c.args.form c.deref.result.now (shown_links spots c.args.links.now) c.deref-2.result.now (asked_spots spots c.args.links.now) c.args.limit
    (spot_titles (workspace_text c.args.titled.workspace.now).packages c.args.titled.sides spots)
    (c.deref.ensures.value ∙ c.in_ok-shown.ensures) (c.deref-2.ensures.value ∙ c.in_ok-roots.ensures) c.spot_tree.ensures
