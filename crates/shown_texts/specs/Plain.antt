-- Texts without control characters.
use Rattle.std.specs.Prelude.{ℕ, List, [], ◌∷◌, Bool, true, false, not, ◌&&◌, ◌||◌, ◌==◌}
use Rattle.shown_texts.specs.Controls.{is_control, is_control_pair}

-- Whether the byte and the next one are a control character.
abbrev pub begins_pair : ℕ → List ℕ → Bool
begins_pair b [] = false
begins_pair b (c ∷ cs) = is_control_pair b c

-- No byte is a control character but the line feed, and no two bytes are one.
abbrev pub is_plain : List ℕ → Bool
is_plain [] = true
is_plain (b ∷ bs) = (not (is_control b) || b == 10) && (not (begins_pair b bs) && is_plain bs)
