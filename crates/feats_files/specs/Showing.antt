-- Answers as a terminal can show them.
use Rattle.cargo_workspaces.specs.Workspaces.{Text}
use Rattle.feats_words.specs.declared.command_arguments.Format.{Format}
use Rattle.feats_words.specs.declared.command_arguments.Format.TheVariants as format
use Rattle.shown_texts.specs.Shown.{shown_json, shown_text}

-- The text that is written for an answer: its control characters are escaped, but for the line feeds at the ends of lines.
abbrev pub shown_in : Format → Text → Text
shown_in format.Text text = shown_text text
shown_in format.Json text = shown_json text
