use Rattle.std.proofs.Common.{◌≡◌, ◌++◌, drop, map}
use Rattle.plan_whys.specs.StepViews.{spot_text}
use Rattle.feats_check.proofs.checking.broken.push_spots.Given as goal

abbrev pub invariant-loop-spot : goal.invariant-loop-spot
invariant-loop-spot l =
    map spot_text l.initial.spots.items ++ map spot_text l.more ≡ map spot_text l.spots.items ++ map spot_text (drop l.spot-index l.more)
