use Rattle.std.proofs.Common.{◌≡◌, max, map, drop}
use Rattle.feats_lines.specs.Lines.{label_width}
use Rattle.feats_lines.specs.inner.Rows.{row_text}
use Rattle.feats_lines.proofs.table.label_width.Given as goal

abbrev pub invariant-loop-row : goal.invariant-loop-row
invariant-loop-row l = label_width (map row_text l.rows) ≡ max l.width (label_width (map row_text (drop l.row-index l.rows)))
