use Rattle.std.proofs.Common.{◌≡◌, ◌++◌, drop, map}
use Rattle.cargo_plans.specs.built_parts.BuiltViews.{state_in}
use Rattle.plan_whys.specs.StepViews.{spot_text}
use Rattle.feats_why_not.specs.PartView.{part_text}
use Rattle.feats_why_not.specs.inner.Lists.{first_spot}
use Rattle.feats_why_not.proofs.spots.first_spots.Given as goal

abbrev pub invariant-loop-part : goal.invariant-loop-part
invariant-loop-part l =
    let spot = first_spot (state_in l.builds.parts) in
    map spot (map part_text l.parts) ≡ map spot_text l.spots.items ++ map spot (map part_text (drop l.part-index l.parts))
