use Rattle.std.proofs.Common.{◌≡◌, ◌++◌, ℕ, map, drop}
use Rattle.feats_duplicates.specs.Alone.{rows_of}
use Rattle.feats_duplicates.specs.Views.{member_unit_text}
use Rattle.feats_duplicates.specs.inner.Groups.{group_at}
use Rattle.feats_duplicates.proofs.alone.rows_by_package.Given as goal

abbrev pub invariant-loop-row : goal.invariant-loop-row
invariant-loop-row l =
    (q : ℕ) → rows_of (map member_unit_text l.rows) q ≡ map member_unit_text (group_at l.groups q) ++ rows_of (map member_unit_text (drop l.row-index l.rows)) q
