use Rattle.std.proofs.Common.{map, take}
use Rattle.guppy_packages.specs.declared.direction.DependencyDirection.TheVariants.{Forward}
use Rattle.feature_core.specs.Offers.{content_of}
use Rattle.plan_whys.specs.Steps.{AreStepsOf}
use Rattle.plan_whys.specs.StepViews.{why_text}
use Rattle.plan_whys.proofs.spots.steps_of.Given as goal

abbrev pub invariant-loop-step : goal.invariant-loop-step
invariant-loop-step l = AreStepsOf l.on (content_of Forward l.built) (take l.step-index l.steps) (map why_text l.whys.items)
