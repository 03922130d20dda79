-- The values that steps contain.
use Rattle.std.specs.Prelude.{List, Option, map, option_map}
use Rattle.std.specs.Global.{Vec}
use Rattle.feature_labels.specs.Names.{label_of}
use Rattle.plan_whys.specs.Steps.{SpotText, ReasonText, ReasonedText, WhyText}
use Rattle.plan_whys.specs.Steps.ReasonText.{selected, from}
use Rattle.plan_whys.specs.declared.steps.ReasonedStep.{ReasonedStep}
use Rattle.plan_whys.specs.declared.steps.Spot.{Spot}
use Rattle.plan_whys.specs.declared.steps.WhyReason.{WhyReason}
use Rattle.plan_whys.specs.declared.steps.WhyReason.TheVariants.{Selected, From}
use Rattle.plan_whys.specs.declared.steps.WhyStep.{WhyStep}

abbrev pub spot_text : Spot → SpotText
spot_text s = record { side = s.side; number = s.«package»; label = label_of s.label }

abbrev pub reason_text : WhyReason → ReasonText
reason_text Selected = selected
reason_text (From start gate) = from (spot_text start) (option_map spot_text gate)

abbrev pub why_text : WhyStep → WhyText
why_text s = record { spot = spot_text s.at; reason = reason_text s.reason }

abbrev pub last_text : Option WhyStep → Option WhyText
last_text last = option_map why_text last

abbrev pub reasoned_text : ReasonedStep → ReasonedText
reasoned_text r = record { step = why_text r.step; reasons = map reason_text r.reasons.items }

abbrev pub found_text : Option (Vec WhyStep) → Option (List WhyText)
found_text found = option_map (λ whys. map why_text whys.items) found
