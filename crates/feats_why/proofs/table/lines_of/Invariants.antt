use Rattle.std.proofs.Common.{◌≡◌, ◌++◌, flat_map, map, drop}
use Rattle.std.specs.String.{string_bytes}
use Rattle.feats_why.specs.Lines.{line_of}
use Rattle.feats_why.specs.inner.Rows.{row_text}
use Rattle.feats_why.proofs.table.lines_of.Given as goal

abbrev pub invariant-loop-row : goal.invariant-loop-row
invariant-loop-row l =
    flat_map (line_of l.width) (map row_text l.rows) ≡ string_bytes l.text ++ flat_map (line_of l.width) (map row_text (drop l.row-index l.rows))
