use Rattle.std.proofs.Common.{arith}
use Rattle.digraphs.specs.Bits.{has}
use Rattle.plan_whys.specs.inner.Nodes.{SpotAnswers}
use Rattle.plan_whys.proofs.StepLists.{zip_next}
use Rattle.plan_whys.proofs.nodes.why_spots.Goals as goal

pub loop-at-preserved : goal.loop-at-preserved
loop-at-preserved c =
    zip_next (SpotAnswers c.args.on.now (has c.args.initials.now)) c.args.spots.now c.loop-at.founds.items c.push.new.self.items c.loop-at.at-index _ c.in_ok-found.found
    (omega (arith, c.loop-at-test.true)) c.loop-at.invariant c.in_ok-found.ensures c.in_ok-push.ensures.items
