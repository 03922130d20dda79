use Rattle.std.proofs.Common.{arith, map}
use Rattle.plan_whys.specs.Steps.{IsAt}
use Rattle.plan_whys.specs.StepViews.{spot_text}
use Rattle.plan_whys.proofs.StepLists.{map_pushed, zip_next}
use Rattle.plan_whys.proofs.links.spots.spots_of.Goals as goal

pub loop-node-preserved : goal.loop-node-preserved
loop-node-preserved c =
    zip_next (IsAt c.args.on.now) c.args.nodes.now (map spot_text c.loop-node.spots.items) (map spot_text c.push.new.self.items) c.loop-node.node-index _ (spot_text c.spot_of.result)
    (omega (arith, c.loop-node-test.true)) c.loop-node.invariant c.spot_of.ensures
    (map_pushed spot_text c.loop-node.spots.items c.push.new.self.items c.spot_of.result c.in_ok-push.ensures.items)
