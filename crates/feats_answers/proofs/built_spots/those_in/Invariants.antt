use Rattle.std.proofs.Common.{◌≡◌, ◌++◌, drop, map}
use Rattle.cargo_plans.specs.built_parts.BuiltViews.{state_in}
use Rattle.plan_whys.specs.StepViews.{spot_text}
use Rattle.feats_answers.specs.BuiltSpots as spec
use Rattle.feats_answers.proofs.built_spots.those_in.Given as goal

abbrev pub invariant-loop-spot : goal.invariant-loop-spot
invariant-loop-spot l =
    let wanted = spec.spots_in (state_in l.parts) l.wanted in
    wanted (map spot_text l.spots) ≡ map spot_text l.found.items ++ wanted (map spot_text (drop l.spot-index l.spots))
