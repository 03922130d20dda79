use Rattle.std.proofs.Common.{◌≡◌, ◌++◌, drop, map}
use Rattle.cargo_plans.specs.built_parts.BuiltViews.{script_in}
use Rattle.plan_whys.specs.StepViews.{spot_text}
use Rattle.feats_why.specs.Unbuilt.{unbuilt_text}
use Rattle.feats_answers.specs.BuiltSpots as spec
use Rattle.feats_answers.proofs.built_spots.with_scripts.Given as goal

abbrev pub invariant-loop-spot : goal.invariant-loop-spot
invariant-loop-spot l =
    let all = map (spec.with_script (script_in l.scripts)) in
    all (map spot_text l.spots) ≡ map unbuilt_text l.list.items ++ all (map spot_text (drop l.spot-index l.spots))
