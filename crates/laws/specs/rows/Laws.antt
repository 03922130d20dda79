-- The law of written rows.
use Rattle.std.specs.Prelude.{◌≡◌, List, Ok}
use Rattle.std.specs.Str.{IsUtf8}
use Rattle.json.specs.Json.{Json}
use Rattle.cargo_json.specs.Faults.{Text}
use Rattle.cargo_rows.specs.Rows.{rows_of as written}
use Rattle.guppy_packages.specs.Graph.{tables_of}
use Rattle.guppy_packages.specs.Rows.{RowText}
use Rattle.guppy_packages.specs.Tables.{Tables}
use Rattle.row_files.specs.Lines.{kept_lines, lines_in}
use Rattle.row_files.specs.RowFile.{tables_in, rows_of as read}
use Rattle.laws.specs.rows.Rows.{document_rows}

-- The document has the rows `rows`, which have no fault, and the lines of `text` are read as these. If the text is UTF-8, it is
-- read as their tables.
pub record IsReadAs (d : Json) (text : Text) (rows : List RowText) : Type 0 where
  pub meant : document_rows d ≡ Ok rows
  pub lines : read (kept_lines 1 (lines_in text)) ≡ Ok rows
  pub tables : Tables
  pub sound : tables_of rows ≡ Ok tables
  pub read_tables : IsUtf8 text → tables_in text ≡ Ok tables

abbrev pub WrittenRowsAreRead : Type 0
WrittenRowsAreRead = (d : Json) (text : Text) → written d ≡ Ok text → (rows : List RowText) × IsReadAs d text rows
