-- A row with a fault, and its line.
use Rattle.std.proofs.Common.{◌≡◌, ℕ, ◌<◌, List, Result, Ok, Err, length, ap, ◌∙◌, refl}
use Rattle.guppy_packages.specs.Rows.{RowText, Text}
use Rattle.guppy_packages.specs.Graph.{tables_of, NamesRow, Reads}
use Rattle.guppy_packages.specs.declared.row_error.RowError.{RowError}
use Rattle.guppy_packages.specs.declared.row_error.RowFault.{RowFault}
use Rattle.guppy_packages.specs.declared.row_error.RowFault.TheVariants.{NoPackage, DuplicatePackage, DuplicateFeature, UnknownTarget, OtherName, Memory}
use Rattle.row_files.specs.declared.error.RowFileError.TheVariants as error
use Rattle.row_files.specs.RowFile.{rows_of, fault_in_line, line_of, by_line, tables_of_lines, ◌>>=◌}

-- An error other than `Memory` is the given one.
pub not_memory : {X Y : Type 0} (view : X → Y) (row : ℕ) (f : RowFault) (given : Result Y RowError) → (f ≡ Memory → ⊥) → Reads view (Err (record { row = row; fault = f })) given → given ≡ Err (record { row = row; fault = f })
not_memory view row NoPackage given apart h = h
not_memory view row DuplicatePackage given apart h = h
not_memory view row DuplicateFeature given apart h = h
not_memory view row UnknownTarget given apart h = h
not_memory view row OtherName given apart h = h
not_memory view row Memory given apart h = absurd (apart refl)

-- An error other than `Memory` names one of the rows.
pub named_row : {X : Type 0} (rows : List X) (row : ℕ) (f : RowFault) → (f ≡ Memory → ⊥) → NamesRow rows (record { row = row; fault = f }) → row < length rows
named_row rows row NoPackage apart h = h
named_row rows row DuplicatePackage apart h = h
named_row rows row DuplicateFeature apart h = h
named_row rows row UnknownTarget apart h = h
named_row rows row OtherName apart h = h
named_row rows row Memory apart h = absurd (apart refl)

-- The error for a fault other than `Memory` has the line's number.
in_line : (n : ℕ) (f : RowFault) → (f ≡ Memory → ⊥) → fault_in_line n f ≡ error.Row n f
in_line n NoPackage apart = refl
in_line n DuplicatePackage apart = refl
in_line n DuplicateFeature apart = refl
in_line n UnknownTarget apart = refl
in_line n OtherName apart = refl
in_line n Memory apart = absurd (apart refl)

-- A row with a fault is named by its line.
pub refused_there : (lines : List (ℕ × List Text)) (rows : List RowText) (row : ℕ) (f : RowFault) → rows_of lines ≡ Ok rows → tables_of rows ≡ Err (record { row = row; fault = f }) → (f ≡ Memory → ⊥)
    → tables_of_lines lines ≡ Err (error.Row (line_of lines row) f)
refused_there lines rows row f read faulty apart =
    ap (λ given. given >>= λ rs. by_line lines (tables_of rs)) read ∙ ap (by_line lines) faulty ∙ ap Err (in_line (line_of lines row) f apart)
