use Rattle.std.proofs.Common.{map, take}
use Rattle.std.specs.List.{AllZip}
use Rattle.plan_whys.specs.Steps.{IsAt}
use Rattle.plan_whys.specs.StepViews.{spot_text}
use Rattle.plan_whys.proofs.links.spots.spots_of.Given as goal

abbrev pub invariant-loop-node : goal.invariant-loop-node
invariant-loop-node l = AllZip (IsAt l.on) (take l.node-index l.nodes) (map spot_text l.spots.items)
