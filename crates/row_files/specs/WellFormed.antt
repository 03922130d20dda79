-- Lines that are all well-formed, and their rows.
use Rattle.std.specs.Prelude.{◌≡◌, ℕ, List, Ok}
use Rattle.std.specs.List.{filter_map}
use Rattle.guppy_packages.specs.Rows.{Text, RowText}
use Rattle.row_files.specs.RowOfLine.{row_of}
use Rattle.row_files.specs.RowFile.{rows_of}

-- The rows of the lines that have one.
abbrev pub rows_in : List (ℕ × List Text) → List RowText
rows_in = filter_map (λ line. row_of line.1)

-- No line is malformed.
abbrev pub AreWellFormed : List (ℕ × List Text) → Type 0
AreWellFormed lines = rows_of lines ≡ Ok (rows_in lines)
