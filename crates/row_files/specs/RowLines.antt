-- The lines of a source of rows.
use Rattle.std.specs.Prelude.{ℕ, List}
use Rattle.guppy_packages.specs.Rows.{Text}
use Rattle.row_files.specs.declared.rows.LineRows.{LineRows}
use Rattle.row_files.specs.RowFile.{lines_of}

-- The lines of the rows: the number of each, and its fields.
abbrev pub row_lines : LineRows → List (ℕ × List Text)
row_lines rows = lines_of rows.lines.now
