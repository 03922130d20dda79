use Rattle.std.proofs.Common.{◌≡◌, drop, map}
use Rattle.plan_whys.specs.StepViews.{why_text}
use Rattle.feats_why_not.specs.Tries.{first_feature}
use Rattle.feats_why_not.proofs.tries.first_feature.Given as goal

abbrev pub invariant-loop-step : goal.invariant-loop-step
invariant-loop-step l = first_feature l.ix (map why_text l.steps) ≡ first_feature l.ix (map why_text (drop l.step-index l.steps))
