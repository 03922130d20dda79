use Rattle.std.proofs.Common.{◌≡◌, ◌++◌, List, map, drop}
use Rattle.cargo_workspaces.specs.Workspaces.{Text}
use Rattle.feats_lines.specs.parts.Views.{row_text}
use Rattle.feats_lines.specs.Repeats.{HasRepeated}
use Rattle.feats_unused.specs.Lines.{row_of}
use Rattle.feats_unused.specs.Views.{shown_text}
use Rattle.feats_unused.proofs.table.rows_by.Given as goal

abbrev pub invariant-loop-one : goal.invariant-loop-one
invariant-loop-one l =
    (names : List Text) → HasRepeated l.repeated names →
    map (row_of names) (map shown_text l.shown) ≡ map row_text l.rows.items ++ map (row_of names) (map shown_text (drop l.one-index l.shown))
