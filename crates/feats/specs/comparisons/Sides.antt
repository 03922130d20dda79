-- What the build of a side is made from: its inputs, and the bytes of its document.
use Rattle.cargo_workspaces.specs.Workspaces.{Text}
use Rattle.feats_plans.specs.Inputs.{InputsText}

pub record SideText : Type 0 where
  pub inputs : InputsText
  pub document : Text

abbrev pub side : InputsText → Text → SideText
side inputs document = record { inputs = inputs; document = document }
