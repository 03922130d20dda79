use Rattle.std.proofs.Common.{flat_map, map, take}
use Rattle.feats_duplicates.specs.Alone.{MemberUnitText}
use Rattle.feats_duplicates.specs.Views.{member_unit_text}
use Rattle.feats_duplicates.specs.inner.Sets.{HasTexts}
use Rattle.feats_duplicates.proofs.features.features_of.Given as goal

abbrev pub invariant-loop-row : goal.invariant-loop-row
invariant-loop-row l = HasTexts l.set (flat_map (λ (r : MemberUnitText). r.unit.features) (map member_unit_text (take l.row-index l.rows)))
