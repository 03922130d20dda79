-- The steps that a slice contains.
use Rattle.std.specs.Prelude.{List, map}
use Rattle.std.specs.Borrow.{Bor}
use Rattle.plan_whys.specs.Steps.{WhyText}
use Rattle.plan_whys.specs.StepViews.{why_text}
use Rattle.plan_whys.specs.declared.steps.WhyStep.{WhyStep}

abbrev pub steps_text : Bor (List WhyStep) → List WhyText
steps_text steps = map why_text steps.now
