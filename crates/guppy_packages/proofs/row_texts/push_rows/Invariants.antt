use Rattle.std.proofs.Common.{take}
use Rattle.std.specs.String.{string_bytes}
use Rattle.guppy_packages.specs.inner.Pushed.{IsPushed}
use Rattle.guppy_packages.specs.inner.RowTexts.{stored_texts}
use Rattle.guppy_packages.proofs.row_texts.push_rows.Given as goal

-- the names so far are those of the rows so far
abbrev pub invariant-loop-ix : goal.invariant-loop-ix
invariant-loop-ix g l = IsPushed (stored_texts (take l.ix (g.S.RowSource.rows l.source))) (string_bytes l.text) l.ends.items
