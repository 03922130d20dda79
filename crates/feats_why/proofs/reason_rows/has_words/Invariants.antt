use Rattle.std.proofs.Common.{◌≡◌, drop, map}
use Rattle.feats_why.specs.ReasonedLines.{has_words}
use Rattle.feats_why.specs.inner.Rows.{row_text}
use Rattle.feats_why.proofs.reason_rows.has_words.Given as goal

abbrev pub invariant-loop-row : goal.invariant-loop-row
invariant-loop-row l = has_words l.words (map row_text l.rows) ≡ has_words l.words (map row_text (drop l.row-index l.rows))
