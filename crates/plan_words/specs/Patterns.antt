-- Patterns of names: a star stands for any text, which may be empty.
use Rattle.std.specs.Prelude.{ℕ, List, [], ◌∷◌, Bool, true, false, nat_eq, ◌==◌, ◌&&◌, if◌then◌else◌}
use Rattle.std.specs.List.{list_any}
use Rattle.cargo_workspaces.specs.Workspaces.{Text}

abbrev pub is_star : ℕ → Bool
is_star c = c == 42

-- The ends of a text: the text itself, and all that follow one of its bytes.
abbrev pub ends_of : Text → List Text
ends_of [] = [] ∷ []
ends_of (c ∷ text) = (c ∷ text) ∷ ends_of text

-- Whether the text begins with the byte, and the rest passes the test.
abbrev pub begins_and : ℕ → (Text → Bool) → Text → Bool
begins_and c test [] = false
begins_and c test (b ∷ text) = nat_eq b c && test text

abbrev pub is_empty : Text → Bool
is_empty [] = true
is_empty (c ∷ text) = false

-- Whether a text fits a pattern. It fits a star and the rest of a pattern if one of its ends fits that rest.
abbrev pub fits : Text → Text → Bool
fits [] text = is_empty text
fits (c ∷ pattern) text = if is_star c then list_any (fits pattern) (ends_of text) else begins_and c (fits pattern) text
