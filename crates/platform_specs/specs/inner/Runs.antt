-- Runs of a reader over characters.
use Rattle.std.specs.Prelude.{ℕ, List, [], ◌∷◌, Option, Some}
use Rattle.std.specs.Option.{option_and_then}

-- the state after the characters, if each of them can be read
abbrev pub run : {S : Type 0} → (S → ℕ → Option S) → List ℕ → S → Option S
run step [] s = Some s
run step (c ∷ cs) s = option_and_then (run step cs) (step s c)
