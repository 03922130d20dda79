use Rattle.std.proofs.Common.{◌≡◌, ◌++◌, drop, map}
use Rattle.cargo_workspaces.specs.Views.{package_text}
use Rattle.plan_whys.specs.StepViews.{spot_text}
use Rattle.feats_tree.specs.trees.Titles.{detail_text}
use Rattle.feats_tree.specs.features.Titles.{spot_detail}
use Rattle.feats_tree.proofs.features.titles.details_of.Given as goal

abbrev pub invariant-loop-spot : goal.invariant-loop-spot
invariant-loop-spot l =
    let detail = spot_detail (map package_text l.packages) in
    map detail (map spot_text l.spots) ≡ map detail_text l.details.items ++ map detail (map spot_text (drop l.spot-index l.spots))
