-- How deep a tree is.
use Rattle.std.specs.Prelude.{ℕ, ◌==◌, ◌^◌, Bool, not, ◌&&◌, Option, None, Some, Result, Ok, Err, length, nat_lt, if◌then◌else◌}
use Rattle.std.specs.Str.{all_ascii_digits}
use Rattle.std.specs.Str.Parse.{digits_value}
use Rattle.clap.specs.Words.{Text}
use Rattle.feats_words.specs.Refusals.{Refusal, bad_depth, ◌>>=◌}

abbrev pub are_digits : Text → Bool
are_digits text = all_ascii_digits text

abbrev pub is_decimal : Text → Bool
is_decimal text = not (length text == 0) && are_digits text

abbrev pub number_within : Text → ℕ → Result ℕ Refusal
number_within word n = if nat_lt n (2 ^ 64) then Ok n else Err (bad_depth word)

-- A decimal number of at most 64 bits.
abbrev pub number_of : Text → Result ℕ Refusal
number_of word = if is_decimal word then number_within word (digits_value 10 word) else Err (bad_depth word)

-- No depth, if there is no word.
abbrev pub depth : Option Text → Result (Option ℕ) Refusal
depth None = Ok None
depth (Some word) = number_of word >>= λ n. Ok (Some n)
