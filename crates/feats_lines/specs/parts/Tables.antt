-- Tables of three columns.
use Rattle.std.specs.Prelude.{ℕ, ◌-◌, List, [], ◌∷◌, ◌++◌, map, flat_map, length, replicate, max, codes}
use Rattle.shown_texts.specs.Shown.{escaped}

-- A row: the texts of its columns.
pub record RowText : Type 0 where
  pub first : List ℕ
  pub second : List ℕ
  pub third : List ℕ

-- The length of the longest text.
abbrev pub widest : List (List ℕ) → ℕ
widest [] = 0
widest (t ∷ ts) = max (length t) (widest ts)

abbrev pub first_width : List RowText → ℕ
first_width rows = widest (map (λ r. r.first) rows)

abbrev pub second_width : List RowText → ℕ
second_width rows = widest (map (λ r. r.second) rows)

-- A text in a column of this width, and the two spaces after it.
abbrev pub cell : ℕ → List ℕ → List ℕ
cell width text = text ++ (replicate (width - length text) 32 ++ codes "  ")

-- The second and the third text; if the third is empty, the second ends the line.
abbrev pub line_end : ℕ → List ℕ → List ℕ → List ℕ
line_end width second [] = second
line_end width second (c ∷ cs) = cell width second ++ c ∷ cs

-- The line of a row, in columns of these widths.
abbrev pub line_of : ℕ → ℕ → RowText → List ℕ
line_of first second r = cell first r.first ++ (line_end second r.second r.third ++ 10 ∷ [])

-- The lines of rows whose texts are as they are shown.
abbrev pub lines_of : List RowText → List ℕ
lines_of rows = flat_map (line_of (first_width rows) (second_width rows)) rows

-- A row as it is shown: each control character is escaped, so a row is one line.
abbrev pub shown_row : RowText → RowText
shown_row r = record { first = escaped r.first; second = escaped r.second; third = escaped r.third }

abbrev pub table_of : List RowText → List ℕ
table_of rows = lines_of (map shown_row rows)
