use Rattle.std.proofs.Common.{◌∙◌, List, ℕ, map, subst, sym}
use Rattle.cargo_workspaces.specs.WorkspaceView.{workspace_text}
use Rattle.feats_tree.specs.packages.Trees.{AreTurned}
use Rattle.plan_whys.specs.StepViews.{spot_text}
use Rattle.feats_tree.specs.features.Links.{shown_links}
use Rattle.feats_tree.proofs.FeaturesShown.{turned_trees}
use Rattle.feats_tree.proofs.features.trees.turned_tree.Goals as goal

pub returns : goal.returns
returns c =
    let spots = map spot_text c.args.titled.spots.now in
    let links = c.deref.result.now in
    let turned_links : AreTurned links c.in_ok-turned.turned.items = record { same = c.in_ok-turned.ensures.same; ascend = c.in_ok-turned.ensures.sorted } in
    turned_trees c.spot_tree.result c.args.form (shown_links spots c.args.links.now) c.deref-2.result.now c.args.roots.now c.args.limit
    (workspace_text c.args.titled.workspace.now).packages c.args.titled.sides spots
    (subst (λ (ls : List (ℕ × ℕ)). AreTurned ls c.deref-2.result.now) (c.deref.ensures.value ∙ c.in_ok-shown.ensures) (subst (AreTurned links) (sym c.deref-2.ensures.value) turned_links))
    c.spot_tree.ensures
