use Rattle.std.proofs.Common.{◌≡◌, ◌++◌, map, drop}
use Rattle.feats_duplicates.specs.Alone.{rows_at}
use Rattle.feats_duplicates.specs.Views.{member_unit_text}
use Rattle.feats_duplicates.proofs.alone.rows_at.Given as goal

abbrev pub invariant-loop-row : goal.invariant-loop-row
invariant-loop-row l =
    rows_at l.place (map member_unit_text l.rows) ≡ map member_unit_text l.here.items ++ rows_at l.place (map member_unit_text (drop l.row-index l.rows))
