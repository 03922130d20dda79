use Rattle.std.proofs.Common.{◌≡◌, ◌++◌, flat_map, map, drop}
use Rattle.feats.specs.comparisons.differences.Views.{build_text}
use Rattle.feats.specs.comparisons.differences.Whys.{feature_spots}
use Rattle.feats_diff.specs.changes.Views.{change_text}
use Rattle.plan_whys.specs.StepViews.{spot_text}
use Rattle.feats.proofs.comparisons.differences.whys.feature_spots.Given as goal

abbrev pub invariant-loop-change : goal.invariant-loop-change
invariant-loop-change l =
    flat_map (feature_spots (build_text l.build)) (map change_text l.changes)
    ≡ map spot_text l.spots.items ++ flat_map (feature_spots (build_text l.build)) (map change_text (drop l.change-index l.changes))
