use Rattle.std.proofs.Common.{◌≡◌, ◌++◌, map, drop}
use Rattle.feats.specs.comparisons.differences.Views.{build_text}
use Rattle.feats.specs.comparisons.differences.Whys.{part_spots}
use Rattle.feats_diff.specs.changes.Views.{part_text}
use Rattle.plan_whys.specs.StepViews.{spot_text}
use Rattle.feats.proofs.comparisons.differences.whys.part_spots.Given as goal

abbrev pub invariant-loop-part : goal.invariant-loop-part
invariant-loop-part l =
    part_spots (build_text l.build) (map part_text l.parts) ≡ map spot_text l.spots.items ++ part_spots (build_text l.build) (map part_text (drop l.part-index l.parts))
