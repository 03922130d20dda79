use Rattle.std.proofs.Common.{arith}
use Rattle.row_files.specs.RowFile.{lines_of}
use Rattle.row_files.specs.WellFormed.{rows_in}
use Rattle.row_files.proofs.RowLemmas.{as_many}
use Rattle.row_files.proofs.TableLemmas.{named_row, not_memory, refused_there}
use Rattle.row_files.proofs.row_file.tables_of_lines.Goals as goal

pub line_number-requires : goal.line_number-requires
line_number-requires c =
    let lines = lines_of c.in_ok-rows.rows.lines.now in
    let named = named_row (rows_in lines) c.in-Err.error.row c.in-Err.error.fault c.in_default.not-Memory c.in-Err.ensures.row in
    rw (← c.in_ok-rows.ensures.ok) (omega (arith, named, as_many lines (rows_in lines) c.in_ok-rows.rows.well_formed))

pub returns-in_default : goal.returns-in_default
returns-in_default c =
    let lines = lines_of c.in_ok-rows.rows.lines.now in
    let faulty = not_memory (λ g. g) c.in-Err.error.row c.in-Err.error.fault _ c.in_default.not-Memory c.in-Err.ensures.tables in
    rw (c.line_number.ensures, ← c.in_ok-rows.ensures.ok) (refused_there lines (rows_in lines) c.in-Err.error.row c.in-Err.error.fault c.in_ok-rows.rows.well_formed faulty c.in_default.not-Memory)
