-- Arrays of JSON, an element a line.
use Rattle.std.specs.Prelude.{ℕ, List, [], ◌∷◌, ◌++◌, Bool, ◌==◌, codes, if◌then◌else◌}
use Rattle.std.specs.List.{list_any}

-- A byte that isn't the last one of lines: a comma is before a line feed.
abbrev pub separated_byte : ℕ → List ℕ
separated_byte b = if b == 10 then 44 ∷ 10 ∷ [] else b ∷ []

-- The lines, with a comma after each but the last. Each ends with a line feed.
abbrev pub separated : List ℕ → List ℕ
separated [] = []
separated (b ∷ []) = b ∷ []
separated (b ∷ c ∷ cs) = separated_byte b ++ separated (c ∷ cs)

-- The array whose elements are these lines.
abbrev pub array_of_lines : List ℕ → List ℕ
array_of_lines lines = codes "[\n" ++ (separated lines ++ codes "]")

-- Whether a text has a line feed.
abbrev pub has_feed : List ℕ → Bool
has_feed text = list_any (λ b. b == 10) text

abbrev pub line_of : List ℕ → List ℕ
line_of text = text ++ 10 ∷ []

-- The elements on lines, with a comma after each but the last.
abbrev pub listed : List (List ℕ) → List ℕ
listed [] = []
listed (e ∷ []) = e ++ 10 ∷ []
listed (e ∷ f ∷ fs) = e ++ 44 ∷ 10 ∷ listed (f ∷ fs)

-- The array of these elements.
abbrev pub array_of : List (List ℕ) → List ℕ
array_of elements = codes "[\n" ++ (listed elements ++ codes "]")
