use Rattle.std.proofs.Common.{arith}
use Rattle.guppy_packages.specs.declared.direction.DependencyDirection.TheVariants.{Forward}
use Rattle.feature_core.specs.Offers.{content_of}
use Rattle.plan_whys.specs.inner.Lasts.{SpotStep}
use Rattle.plan_whys.proofs.StepLists.{zip_next}
use Rattle.plan_whys.proofs.last_steps.steps_at_spots.Goals as goal

pub loop-at-preserved : goal.loop-at-preserved
loop-at-preserved c =
    zip_next (SpotStep c.args.on.now (content_of Forward c.args.built.now) c.args.steps.now) c.args.spots.now c.loop-at.lasts.items c.push.new.self.items c.loop-at.at-index _ c.step_at_spot.result
    (omega (arith, c.loop-at-test.true)) c.loop-at.invariant c.step_at_spot.ensures c.in_ok-push.ensures.items
