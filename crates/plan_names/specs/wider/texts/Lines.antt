-- What an answer says of a feature that is off, for each widening of the selection.
use Rattle.std.specs.Prelude.{ℕ, [], ◌∷◌, ◌++◌, Bool, true, false, Option, None, Some, flat_map, codes, ◌==◌, if◌then◌else◌}
use Rattle.cargo_workspaces.specs.Workspaces.{Text}
use Rattle.plan_names.specs.declared.wider.widenings.widening.Widening.{Widening}
use Rattle.plan_names.specs.declared.wider.widenings.widening.Widening.TheVariants as widening
use Rattle.plan_names.specs.wider.widenings.Widenings.{widenings}
use Rattle.shown_texts.specs.Shown.{escaped}

-- The feature is on, with the lines that explain it; it is asked for and not built, with the message about that; it is off; or there is no
-- plan, with the message why.
pub data SaidText : Type 0 where
  on_by : Text → SaidText
  unbuilt : Text → SaidText
  off : SaidText
  not_planned : Text → SaidText

abbrev pub heading : Widening → Text
heading widening.AllFeatures = codes "with all features of the selected members"
heading widening.AllMembers = codes "with all members"
heading widening.Tests = codes "with tests"
heading widening.EveryPlatform = codes "on every platform that the workspace names"
heading widening.Together = codes "with all of these"

abbrev pub is_line_feed : ℕ → Bool
is_line_feed c = c == 10

-- A text with four spaces before each of its lines, where `starts` is whether it begins at the start of a line.
abbrev pub indented_from : Bool → Text → Text
indented_from starts [] = []
indented_from starts (c ∷ cs) = (if starts then codes "    " else []) ++ c ∷ indented_from (is_line_feed c) cs

abbrev pub indented : Text → Text
indented text = indented_from true text

-- The end of a line: a text and a message. Each further line of the message is after four spaces.
abbrev pub message_line : Text → Text → Text
message_line begins message = begins ++ (indented_from false message ++ codes "\n")

-- What follows the heading.
abbrev pub said_lines : SaidText → Text
said_lines (on_by lines) = codes ": on\n" ++ indented lines
said_lines (unbuilt message) = message_line (codes ": ") message
said_lines off = codes ": off\n"
said_lines (not_planned message) = message_line (codes ": not planned: ") message

-- The sentence about a feature that is off with all widenings together.
abbrev pub sentence : Text
sentence = codes "no choice of members, features of members, tests and platforms turns it on"

-- The line with the sentence, after all widenings together.
abbrev pub closing : Widening → SaidText → Text
closing widening.Together off = sentence ++ codes "\n"
closing _ _ = []

-- The lines about a widening.
abbrev pub widening_lines : Widening → SaidText → Text
widening_lines v said = heading v ++ (said_lines said ++ closing v said)

-- The line that begins an answer about the feature `name`: it is off; or it is asked for and not built, with the message about that. Control
-- characters in the name are escaped.
abbrev pub head_line : Text → Option Text → Text
head_line name None = escaped name ++ codes " is off\n"
head_line name (Some message) = escaped name ++ message_line (codes " is ") message

-- THE LINES of an answer about the feature `name`, by what is said of each widening.
abbrev pub why_not_lines : Text → Option Text → (Widening → SaidText) → Text
why_not_lines name message said = head_line name message ++ flat_map (λ v. widening_lines v (said v)) widenings
