-- The tables of a row file, or its first fault as a refusal of the program.
use Rattle.std.specs.Prelude.{Result, Ok, Err}
use Rattle.guppy_packages.specs.Rows.{Text}
use Rattle.guppy_packages.specs.Tables.{Tables}
use Rattle.row_files.specs.declared.error.RowFileError.{RowFileError}
use Rattle.row_files.specs.declared.error.RowFileError.TheVariants as error
use Rattle.row_files.specs.RowFile.{tables_in as tables_of_file}
use Rattle.guppy_tool.specs.Faults.{Refusal, row_file, out_of_memory}

-- the refusal for a row file's error
abbrev pub file_refusal : RowFileError → Refusal
file_refusal error.Memory = out_of_memory
file_refusal refused = row_file refused

abbrev pub in_refusals : {X : Type 0} → Result X RowFileError → Result X Refusal
in_refusals (Ok x) = Ok x
in_refusals (Err e) = Err (file_refusal e)

-- the tables of a row file's bytes, or the first refusal
abbrev pub tables_in : Text → Result Tables Refusal
tables_in bytes = in_refusals (tables_of_file bytes)
