use Rattle.std.proofs.Common.{sym, ◌∙◌}
use Rattle.row_files.specs.RowFile.{lines_of}
use Rattle.row_files.specs.WellFormed.{rows_in}
use Rattle.row_files.proofs.RowLemmas.{as_many}
use Rattle.row_files.proofs.rows.LineRowsRowSource.row_count.Goals as goal

pub returns : goal.returns
returns c =
    let lines = lines_of c.args.self.now.lines.now in
    c.line_count.ensures ∙ sym (as_many lines (rows_in lines) c.args.self.now.well_formed)
