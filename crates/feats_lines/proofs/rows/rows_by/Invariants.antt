use Rattle.std.proofs.Common.{◌≡◌, ◌++◌, List, map, drop}
use Rattle.cargo_workspaces.specs.Workspaces.{Text}
use Rattle.feats_lines.specs.Lines.{row_of}
use Rattle.feats_lines.specs.Views.{shown_text}
use Rattle.feats_lines.specs.inner.Rows.{row_text}
use Rattle.feats_lines.specs.Repeats.{HasRepeated}
use Rattle.feats_lines.proofs.rows.rows_by.Given as goal

abbrev pub invariant-loop-unit : goal.invariant-loop-unit
invariant-loop-unit l =
    (names : List Text) → HasRepeated l.repeated names →
    map (row_of names) (map shown_text l.units) ≡ map row_text l.rows.items ++ map (row_of names) (map shown_text (drop l.unit-index l.units))
