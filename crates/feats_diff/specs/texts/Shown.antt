-- The differences of two plans, as the lines show them.
use Rattle.std.specs.Prelude.{List}
use Rattle.cargo_workspaces.specs.Workspaces.{Text}
use Rattle.feats_lines.specs.Lines.{ShownText}

-- A feature that comes, and the last step of why it is on.
pub record TurnedText : Type 0 where
  pub name : Text
  pub why : Text

-- A package comes, with the last step of why it is on; it goes; or it stays or changes its version, and features come and go.
pub data DifferenceText : Type 0 where
  come : ShownText → Text → DifferenceText
  gone : ShownText → DifferenceText
  changed : ShownText → ShownText → List TurnedText → List Text → DifferenceText
