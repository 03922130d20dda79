use Rattle.std.proofs.Common.{◌≡◌, ◌++◌, map, drop}
use Rattle.feats_duplicates.specs.Alone.{MemberUnitText}
use Rattle.feats_duplicates.specs.Views.{member_unit_text}
use Rattle.feats_duplicates.proofs.joins.members_of.Given as goal

abbrev pub invariant-loop-row : goal.invariant-loop-row
invariant-loop-row l =
    let f = λ (r : MemberUnitText). r.member in
    map f (map member_unit_text l.rows) ≡ l.members.items ++ map f (map member_unit_text (drop l.row-index l.rows))
