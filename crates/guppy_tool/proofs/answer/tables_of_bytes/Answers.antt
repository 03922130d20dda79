use Rattle.row_files.specs.RowFile.{tables_in as tables_of_file}
use Rattle.guppy_tool.proofs.RefusalLemmas.{told}
use Rattle.guppy_tool.proofs.answer.tables_of_bytes.Goals as goal

pub returns-in-Err : goal.returns-in-Err
returns-in-Err c = rw c.from.ensures (told (tables_of_file c.args.bytes.now) c.in-Err.error c.in-Err.ensures)
