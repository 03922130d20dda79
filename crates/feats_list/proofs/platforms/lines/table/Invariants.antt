use Rattle.std.proofs.Common.{◌≡◌, ◌++◌, map, drop}
use Rattle.feats_lines.specs.parts.Views.{row_text}
use Rattle.feats_list.specs.platforms.Lines.{row_of}
use Rattle.feats_list.specs.platforms.inner.Listed.{listed_text}
use Rattle.feats_list.proofs.platforms.lines.table.Given as goal

abbrev pub invariant-loop-one : goal.invariant-loop-one
invariant-loop-one l =
    map (row_of l.several) (map listed_text l.list) ≡ map row_text l.rows.items ++ map (row_of l.several) (map listed_text (drop l.one-index l.list))
