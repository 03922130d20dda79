-- How a control character is written, by its number below 256.
use Rattle.std.specs.Prelude.{ℕ, ◌/◌, ◌%◌, List, [], ◌∷◌, ◌++◌, nat_lt, codes, if◌then◌else◌}
use Rattle.std.specs.Char.{digit_char}

abbrev pub two_digits : ℕ → List ℕ
two_digits code = digit_char (code / 16) ∷ digit_char (code % 16) ∷ []

-- Without a zero before them.
abbrev pub hexadecimal : ℕ → List ℕ
hexadecimal code = if nat_lt code 16 then digit_char code ∷ [] else two_digits code

-- `\u{1b}`
abbrev pub escape : ℕ → List ℕ
escape code = codes "\\u{" ++ hexadecimal code ++ codes "}"

-- `\u001b`
abbrev pub json_escape : ℕ → List ℕ
json_escape code = codes "\\u00" ++ two_digits code
