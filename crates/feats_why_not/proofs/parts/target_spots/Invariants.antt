use Rattle.std.proofs.Common.{◌≡◌, ◌++◌, drop, map}
use Rattle.plan_rows.specs.declared.side.Side.TheVariants.{Target}
use Rattle.plan_whys.specs.StepViews.{spot_text}
use Rattle.feats_why_not.specs.PartView.{part_text}
use Rattle.feats_why_not.specs.Parts.{spot_on}
use Rattle.feats_why_not.proofs.parts.target_spots.Given as goal

abbrev pub invariant-loop-part : goal.invariant-loop-part
invariant-loop-part l =
    map (spot_on Target) (map part_text l.parts) ≡ map spot_text l.spots.items ++ map (spot_on Target) (map part_text (drop l.part-index l.parts))
