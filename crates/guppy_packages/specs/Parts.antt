-- A text that contains others one after the other, each up to its end.
use Rattle.std.specs.Prelude.{ℕ, ◌≤◌, List, [], ◌∷◌, slice_range}
use Rattle.std.specs.Str.{IsCharBoundary}
use Rattle.guppy_packages.specs.Rows.{Text}

-- The parts of `text` that end at these places; the first begins at `from`.
abbrev pub parts : ℕ → List ℕ → Text → List Text
parts from [] text = []
parts from (end ∷ ends) text = slice_range text from end ∷ parts end ends text

-- Each part ends at a character boundary, and not before it begins.
abbrev pub AreEnds : ℕ → List ℕ → Text → Type 0
AreEnds from [] text = Unit {0}
AreEnds from (end ∷ ends) text = (from ≤ end) × IsCharBoundary text end × AreEnds end ends text

-- The first of texts, or an empty one if there are none.
abbrev pub first_text : List Text → Text
first_text [] = []
first_text (text ∷ texts) = text
