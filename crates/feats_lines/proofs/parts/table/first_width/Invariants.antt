use Rattle.std.proofs.Common.{◌≡◌, max, map, drop}
use Rattle.feats_lines.specs.parts.Tables.{first_width}
use Rattle.feats_lines.specs.parts.Views.{row_text}
use Rattle.feats_lines.proofs.parts.table.first_width.Given as goal

abbrev pub invariant-loop-row : goal.invariant-loop-row
invariant-loop-row l = first_width (map row_text l.rows) ≡ max l.width (first_width (map row_text (drop l.row-index l.rows)))
