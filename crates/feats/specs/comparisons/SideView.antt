-- The values that sides contain.
use Rattle.feats.specs.comparisons.Sides.{SideText}
use Rattle.feats.specs.declared.comparisons.sides.Side.{Side}
use Rattle.feats.specs.declared.comparisons.sides.SideInputs.{SideInputs}
use Rattle.feats_plans.specs.Inputs.{InputsText, inputs_text}

abbrev pub side_text : Side → SideText
side_text s = record { inputs = inputs_text s.arguments.now s.files.now; document = s.document.now }

abbrev pub inputs_of : SideInputs → InputsText
inputs_of s = inputs_text s.arguments.now s.files.now
