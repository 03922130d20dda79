-- The tables of a row file's bytes, or the first fault.
use Rattle.std.specs.Prelude.{ℕ, List, Result, Ok, Err, map, slice_index, if◌then◌else◌}
use Rattle.std.specs.Str.{is_utf8}
use Rattle.guppy_packages.specs.Rows.{Text, RowText, texts}
use Rattle.guppy_packages.specs.Tables.{Tables}
use Rattle.guppy_packages.specs.Graph.{tables_of}
use Rattle.guppy_packages.specs.declared.row_error.RowError.{RowError}
use Rattle.guppy_packages.specs.declared.row_error.RowFault.{RowFault}
use Rattle.guppy_packages.specs.declared.row_error.RowFault.TheVariants as row
use Rattle.row_files.specs.declared.error.RowFileError.{RowFileError}
use Rattle.row_files.specs.declared.error.RowFileError.TheVariants as error
use Rattle.row_files.specs.declared.lines.Lines.{Lines}
use Rattle.row_files.specs.Lines.{lines_in, kept_lines}
use Rattle.row_files.specs.Forms.{line_texts}
use Rattle.row_files.specs.RowOfLine.{row_of}
use Rattle.row_files.specs.FirstFault.{each_or}

-- The lines that aren't skipped, each as its number and its fields.
abbrev pub lines_of : Lines → List (ℕ × List Text)
lines_of lines = line_texts (texts lines.kept.items) 0 lines.lines.items

-- The rows of the lines, or the first malformed line.
abbrev pub rows_of : List (ℕ × List Text) → Result (List RowText) RowFileError
rows_of = each_or (λ line. row_of line.1) (λ line. error.Malformed line.0)

-- The error for a fault of the row in this line.
abbrev pub fault_in_line : ℕ → RowFault → RowFileError
fault_in_line line row.Memory = error.Memory
fault_in_line line fault = error.Row line fault

-- The number of the line that has this row, if each line has a row.
abbrev pub line_of : List (ℕ × List Text) → ℕ → ℕ
line_of lines row = slice_index (map (λ l. l.0) lines) row

-- The result with the line's number in place of the row's.
abbrev pub by_line : {X : Type 0} → List (ℕ × List Text) → Result X RowError → Result X RowFileError
by_line lines (Ok x) = Ok x
by_line lines (Err e) = Err (fault_in_line (line_of lines e.row) e.fault)

infixl 10 ◌>>=◌
abbrev pub ◌>>=◌ : {A B E : Type 0} → Result A E → (A → Result B E) → Result B E
(Ok x) >>= f = f x
(Err e) >>= f = Err e

-- The tables of the lines that aren't skipped, or the first fault.
abbrev pub tables_of_lines : List (ℕ × List Text) → Result Tables RowFileError
tables_of_lines lines = rows_of lines >>= λ rows. by_line lines (tables_of rows)

-- The tables of a row file's bytes, or the first fault.
abbrev pub tables_in : Text → Result Tables RowFileError
tables_in bytes = if is_utf8 bytes then tables_of_lines (kept_lines 1 (lines_in bytes)) else Err error.NotText
