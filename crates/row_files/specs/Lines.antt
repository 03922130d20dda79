-- The lines of a row file that aren't skipped.
use Rattle.std.specs.Prelude.{ℕ, List, [], ◌∷◌, Bool, true, not, map, filter, ◌==◌}
use Rattle.std.specs.List.{slice_split, enumerate_from}
use Rattle.guppy_packages.specs.Rows.{Text}

-- A line feed ends a line.
abbrev pub lines_in : Text → List Text
lines_in = slice_split (λ b. b == 10)

-- A tab is between two fields.
abbrev pub fields_in : Text → List Text
fields_in = slice_split (λ b. b == 9)

-- A line that is empty or begins with `#` is skipped.
abbrev pub is_skipped : Text → Bool
is_skipped [] = true
is_skipped (b ∷ line) = b == 35

-- The lines that aren't skipped, each as its number and its fields. The first line has number `n`.
abbrev pub kept_lines : ℕ → List Text → List (ℕ × List Text)
kept_lines n lines = map (λ l. (l.0, fields_in l.1)) (filter (λ l. not (is_skipped l.1)) (enumerate_from n lines))
