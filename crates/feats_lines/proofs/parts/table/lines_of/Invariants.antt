use Rattle.std.proofs.Common.{◌≡◌, ◌++◌, flat_map, map, drop}
use Rattle.std.specs.String.{string_bytes}
use Rattle.feats_lines.specs.parts.Tables.{line_of}
use Rattle.feats_lines.specs.parts.Views.{row_text}
use Rattle.feats_lines.proofs.parts.table.lines_of.Given as goal

abbrev pub invariant-loop-row : goal.invariant-loop-row
invariant-loop-row l =
    flat_map (line_of l.first l.second) (map row_text l.rows) ≡ string_bytes l.text ++ flat_map (line_of l.first l.second) (map row_text (drop l.row-index l.rows))
