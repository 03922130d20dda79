use Rattle.std.proofs.Common.{◌≡◌, max, map, drop}
use Rattle.feats_lines.specs.Lines.{place_width}
use Rattle.feats_lines.specs.inner.Rows.{row_text}
use Rattle.feats_lines.proofs.table.place_width.Given as goal

abbrev pub invariant-loop-row : goal.invariant-loop-row
invariant-loop-row l = place_width (map row_text l.rows) ≡ max l.width (place_width (map row_text (drop l.row-index l.rows)))
