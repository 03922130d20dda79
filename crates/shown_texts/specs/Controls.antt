-- The control characters of a text of UTF-8, and the text with others in their place.
use Rattle.std.specs.Prelude.{ℕ, List, [], ◌∷◌, ◌++◌, Bool, ◌&&◌, ◌||◌, ◌==◌, nat_lt, if◌then◌else◌}
use Rattle.std.specs.Int.{is_in_range}

-- U+0000 to U+001F, and U+007F, are one byte.
abbrev pub is_control : ℕ → Bool
is_control byte = nat_lt byte 32 || byte == 127

-- U+0080 to U+009F are two: 194, and the number of the character.
abbrev pub is_control_pair : ℕ → ℕ → Bool
is_control_pair first second = first == 194 && is_in_range 128 159 second

abbrev pub replaced_byte : (ℕ → List ℕ) → ℕ → List ℕ
replaced_byte written byte = if is_control byte then written byte else byte ∷ []

-- The text with `written c` in place of each control character with the number `c`.
abbrev pub replaced : (ℕ → List ℕ) → List ℕ → List ℕ
replaced written [] = []
replaced written (b ∷ []) = replaced_byte written b
replaced written (b ∷ c ∷ cs) =
    if is_control_pair b c then written c ++ replaced written cs else replaced_byte written b ++ replaced written (c ∷ cs)
