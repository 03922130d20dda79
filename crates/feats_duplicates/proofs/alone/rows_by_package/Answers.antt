use Rattle.std.proofs.Common.{nat_eq}
use Rattle.feats_duplicates.specs.Alone.{MemberUnitText}
use Rattle.feats_duplicates.specs.Views.{member_unit_text}
use Rattle.feats_duplicates.proofs.Lists.{added, filtered_more}
use Rattle.feats_duplicates.proofs.alone.rows_by_package.Goals as goal

pub loop-row-preserved : goal.loop-row-preserved
loop-row-preserved c = λ q.
    filtered_more member_unit_text (λ (r : MemberUnitText). nat_eq q r.unit.number) c.args.rows.now c.loop-row.row-index c.row-item.result _ _ _
    c.loop-row-test.true c.row-item.is (c.loop-row.invariant q) (added member_unit_text _ _ _ _ (c.in_ok-add.ensures q))
