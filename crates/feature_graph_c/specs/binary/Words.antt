-- The numbers of a request.
use Rattle.std.specs.Prelude.{ℕ, List, [], ◌∷◌, Option, None, Some, length, take, drop, nat_le, if◌then◌else◌}
use Rattle.std.specs.Option.{option_map}
use Rattle.std.specs.Int.{w64, from_le_bytes}

-- The numbers whose records are these bytes, if the number of bytes is a multiple of eight.
abbrev pub words : List ℕ → Option (List ℕ)
words [] = Some []
words (a ∷ b ∷ c ∷ d ∷ e ∷ f ∷ g ∷ h ∷ rest) = option_map (λ ws. from_le_bytes w64 (a ∷ b ∷ c ∷ d ∷ e ∷ f ∷ g ∷ h ∷ []) ∷ ws) (words rest)
words _ = None

-- The list at the beginning of some numbers, after its count, and the numbers after the list.
abbrev pub counted : List ℕ → Option (List ℕ × List ℕ)
counted [] = None
counted (n ∷ rest) = if nat_le n (length rest) then Some (take n rest, drop n rest) else None
