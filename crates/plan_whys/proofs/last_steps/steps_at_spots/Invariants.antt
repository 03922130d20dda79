use Rattle.std.proofs.Common.{take}
use Rattle.std.specs.List.{AllZip}
use Rattle.guppy_packages.specs.declared.direction.DependencyDirection.TheVariants.{Forward}
use Rattle.feature_core.specs.Offers.{content_of}
use Rattle.plan_whys.specs.inner.Lasts.{SpotStep}
use Rattle.plan_whys.proofs.last_steps.steps_at_spots.Given as goal

abbrev pub invariant-loop-at : goal.invariant-loop-at
invariant-loop-at l = AllZip (SpotStep l.on (content_of Forward l.built) l.steps) (take l.at-index l.spots) l.lasts.items
