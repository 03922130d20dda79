use Rattle.std.proofs.Common.{◌≡◌, ◌++◌, map, drop}
use Rattle.feats_lines.specs.parts.Tables.{shown_row}
use Rattle.feats_lines.specs.parts.Views.{row_text}
use Rattle.feats_lines.proofs.parts.table.shown_rows.Given as goal

abbrev pub invariant-loop-row : goal.invariant-loop-row
invariant-loop-row l = map shown_row (map row_text l.rows) ≡ map row_text l.shown.items ++ map shown_row (map row_text (drop l.row-index l.rows))
