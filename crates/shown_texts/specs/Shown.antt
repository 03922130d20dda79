-- Texts that a terminal can show.
use Rattle.std.specs.Prelude.{ℕ, List, [], ◌∷◌, ◌==◌, if◌then◌else◌}
use Rattle.shown_texts.specs.Controls.{replaced}
use Rattle.shown_texts.specs.Escapes.{escape, json_escape}

-- A part of a line: each control character is escaped.
abbrev pub escaped : List ℕ → List ℕ
escaped text = replaced escape text

-- A character is written so, but a line feed stays.
abbrev pub but_line_feeds : (ℕ → List ℕ) → ℕ → List ℕ
but_line_feeds written code = if code == 10 then 10 ∷ [] else written code

-- A text of lines.
abbrev pub shown_text : List ℕ → List ℕ
shown_text text = replaced (but_line_feeds escape) text

-- Lines of JSON, in which a control character other than the line feed is within a string.
abbrev pub shown_json : List ℕ → List ℕ
shown_json json = replaced (but_line_feeds json_escape) json
