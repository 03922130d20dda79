use Rattle.std.proofs.Common.{◌≡◌, ◌++◌, ◌∷◌, map, drop}
use Rattle.feats_lines.specs.parts.Views.{row_text}
use Rattle.feats_slim.specs.answers.Lines.{row_of, titles}
use Rattle.feats_slim.specs.answers.Views.{shown_text}
use Rattle.feats_slim.proofs.answers.table.rows_of.Given as goal

abbrev pub invariant-loop-one : goal.invariant-loop-one
invariant-loop-one l = titles ∷ map row_of (map shown_text l.shown) ≡ map row_text l.rows.items ++ map row_of (map shown_text (drop l.one-index l.shown))
