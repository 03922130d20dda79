-- Lines as lists of fields.
use Rattle.std.specs.Prelude.{ℕ, List, [], ◌∷◌, Bool, true, false, ◌==◌, if◌then◌else◌}
use Rattle.guppy_packages.specs.Rows.{Text}

-- Whether a line with these fields is empty or begins with `#`.
abbrev pub skips_fields : List Text → Bool
skips_fields [] = true
skips_fields ([] ∷ []) = true
skips_fields ([] ∷ field ∷ fields) = false
skips_fields ((b ∷ field) ∷ fields) = b == 35

-- The line as its number and its fields, unless it is skipped.
abbrev pub kept_line : ℕ → List Text → List (ℕ × List Text)
kept_line n fields = if skips_fields fields then [] else (n, fields) ∷ []
