use Rattle.std.proofs.Common.{Some, arith}
use Rattle.guppy_packages.specs.Rows.{row_text}
use Rattle.row_files.specs.RowFile.{lines_of}
use Rattle.row_files.specs.WellFormed.{rows_in}
use Rattle.row_files.proofs.RowLemmas.{as_many, known_there, row_there}
use Rattle.row_files.proofs.rows.LineRowsRowSource.row.Goals as goal

pub row_at-requires-clause-within : goal.row_at-requires-clause-within
row_at-requires-clause-within c =
    let lines = lines_of c.args.self.now.lines.now in
    omega (arith, c.requires, as_many lines (rows_in lines) c.args.self.now.well_formed)

pub row_at-requires-clause-row : goal.row_at-requires-clause-row
row_at-requires-clause-row c =
    let lines = lines_of c.args.self.now.lines.now in
    known_there lines (rows_in lines) c.args.ix c.args.self.now.well_formed c.requires

pub returns : goal.returns
returns c =
    let lines = lines_of c.args.self.now.lines.now in
    row_there lines (rows_in lines) c.args.ix (Some (row_text c.row_at.result)) c.args.self.now.well_formed c.row_at.ensures
