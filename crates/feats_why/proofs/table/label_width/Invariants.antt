use Rattle.std.proofs.Common.{◌≡◌, max, map, drop}
use Rattle.feats_why.specs.Lines.{label_width}
use Rattle.feats_why.specs.inner.Rows.{row_text}
use Rattle.feats_why.proofs.table.label_width.Given as goal

abbrev pub invariant-loop-row : goal.invariant-loop-row
invariant-loop-row l = label_width (map row_text l.rows) ≡ max l.width (label_width (map row_text (drop l.row-index l.rows)))
