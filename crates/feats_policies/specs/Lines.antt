-- The lines of a policy file: words, and a reason.
use Rattle.std.specs.Prelude.{ℕ, List, [], ◌∷◌, Bool, true, false, ◌&&◌, ◌||◌, ◌==◌, filter, flat_map, take, drop, Option, Some, None}
use Rattle.std.specs.List.{position_or_len, slice_split, zip}
use Rattle.std.specs.Str.{trim}

abbrev pub Text : Type 0
Text = List ℕ

abbrev pub is_space : ℕ → Bool
is_space c = c == 32

abbrev pub is_tab : ℕ → Bool
is_tab c = c == 9

abbrev pub is_mark : ℕ → Bool
is_mark c = c == 35

-- Each byte of a line, after the one before it. A space is before the first.
abbrev pub with_previous : Text → List (ℕ × ℕ)
with_previous line = zip (32 ∷ line) line

-- Whether a byte begins a reason: it is a mark, and follows a space or a tab. A mark within a word begins none.
abbrev pub begins_reason : ℕ × ℕ → Bool
begins_reason p = (is_space p.0 || is_tab p.0) && is_mark p.1

-- The number of bytes before the reason; that of the line, if it has none.
abbrev pub reason_at : Text → ℕ
reason_at line = position_or_len begins_reason (with_previous line)

abbrev pub is_text : Text → Bool
is_text [] = false
is_text (c ∷ text) = true

-- The words of a text: what is between spaces and tabs.
abbrev pub words_in : Text → List Text
words_in text = filter is_text (flat_map (slice_split is_tab) (slice_split is_space text))

-- The words of a line before its reason.
abbrev pub words_of : Text → List Text
words_of line = words_in (take (reason_at line) line)

-- A text, unless it is empty.
abbrev pub some_text : Text → Option Text
some_text [] = None
some_text (c ∷ text) = Some (c ∷ text)

-- The reason, of which the text is the mark and what follows it, without white space around it.
abbrev pub after_mark : Text → Option Text
after_mark [] = None
after_mark (mark ∷ text) = some_text (trim text)

abbrev pub reason_of : Text → Option Text
reason_of line = after_mark (drop (reason_at line) line)
