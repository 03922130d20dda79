use Rattle.std.proofs.Common.{Err, ap, sym, ◌∙◌}
use Rattle.row_files.specs.RowFile.{lines_of}
use Rattle.row_files.specs.RowOfLine.{row_of}
use Rattle.row_files.specs.declared.error.RowFileError.TheVariants as error
use Rattle.row_files.proofs.EachLemmas.{passed_here, refused_here}
use Rattle.row_files.proofs.RowLemmas.{number_there}
use Rattle.row_files.proofs.rows.LineRows.of.Goals as goal

pub returns-then-is_malformed-clause-err : goal.returns-then-is_malformed-clause-err
returns-then-is_malformed-clause-err c =
    let lines = lines_of c.args.lines.now in
    let first = refused_here (λ l. row_of l.1) (λ l. error.Malformed l.0) lines c.loop-at.at c.loop-at.invariant c.is_malformed.result c.is_malformed.ensures c.if-is_malformed.true in
    first.2 ∙ ap (λ n. Err (error.Malformed n)) (sym (number_there lines c.loop-at.at first.0 first.1) ∙ sym c.line_number-line.ensures)

pub loop-at-preserved : goal.loop-at-preserved
loop-at-preserved c =
    passed_here (λ l. row_of l.1) (λ l. error.Malformed l.0) (lines_of c.args.lines.now) c.loop-at.at c.loop-at.invariant c.is_malformed.result c.is_malformed.ensures c.if-is_malformed.false
