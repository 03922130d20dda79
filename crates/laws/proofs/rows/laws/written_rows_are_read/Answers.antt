use Rattle.laws.proofs.Written.{written_rows_are_read}
use Rattle.laws.proofs.rows.laws.written_rows_are_read.Goals as goal

pub returns : goal.returns
returns c = written_rows_are_read
