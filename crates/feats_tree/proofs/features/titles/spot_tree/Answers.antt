use Rattle.std.proofs.Common.{◌∙◌, List, ap, ap₂, map}
use Rattle.std.specs.String.{string_bytes}
use Rattle.cargo_workspaces.specs.WorkspaceView.{workspace_text}
use Rattle.cargo_workspaces.specs.Workspaces.{PackageText}
use Rattle.feats_tree.specs.packages.Titles.{titles_with}
use Rattle.plan_whys.specs.StepViews.{spot_text}
use Rattle.feats_tree.specs.trees.Titles.{detail_text}
use Rattle.feats_tree.specs.features.Titles.{spot_detail, spot_titles}
use Rattle.feats_tree.proofs.FeaturesShown.{titled_by}
use Rattle.feats_tree.proofs.features.titles.spot_tree.Goals as goal

pub returns : goal.returns
returns c =
    let spots = map spot_text c.args.titled.spots.now in
    titled_by c.titled_text.result c.args.form c.args.links.now c.args.roots.now c.args.limit (map string_bytes c.deref.result.now) (map detail_text c.deref-2.result.now)
    (spot_titles (workspace_text c.args.titled.workspace.now).packages c.args.titled.sides spots)
    (ap₂ titles_with (ap (map string_bytes) c.deref.ensures.value ∙ c.in_ok-titles.ensures)
    (ap (map detail_text) c.deref-2.ensures.value ∙ c.in_ok-details.ensures ∙ ap (λ (ps : List PackageText). map (spot_detail ps) spots) c.packages.ensures))
    c.titled_text.ensures
