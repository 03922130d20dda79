use Rattle.std.proofs.Common.{◌≡◌, ◌++◌, flat_map, map, drop}
use Rattle.feats_diff.specs.texts.Lines.{rows_of}
use Rattle.feats_diff.specs.texts.Views.{difference_text}
use Rattle.feats_diff.specs.texts.inner.Names.{names_text}
use Rattle.feats_lines.specs.parts.Views.{row_text}
use Rattle.feats_diff.proofs.texts.lines.rows_of.Given as goal

abbrev pub invariant-loop-difference : goal.invariant-loop-difference
invariant-loop-difference l =
    flat_map (rows_of (names_text l.repeated)) (map difference_text l.shown) ≡ map row_text l.rows.items ++ flat_map (rows_of (names_text l.repeated)) (map difference_text (drop l.difference-index l.shown))
