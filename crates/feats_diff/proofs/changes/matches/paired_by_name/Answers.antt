use Rattle.std.proofs.Common.{map, subst, sym}
use Rattle.feats_diff.specs.changes.Orders.{name_cmp, name_total, part_cmp}
use Rattle.feats_diff.specs.changes.Pairings.{AreAscending, ArePaired, IsPartition}
use Rattle.feats_diff.specs.changes.Views.{part_text}
use Rattle.feats_diff.specs.changes.inner.Joined.{joined}
use Rattle.feats_diff.proofs.Joins.{by_name, join}
use Rattle.feats_diff.proofs.Names.{ok_with}
use Rattle.feats_diff.proofs.changes.matches.paired_by_name.Goals as goal

pub returns-clause-paired : goal.returns-clause-paired
returns-clause-paired c =
    ok_with _ _ c.joined.result c.joined.ensures (λ found is. subst (λ p. ArePaired name_cmp (map part_text c.args.old.now) (map part_text c.args.new.now) p) (sym is) (join name_cmp part_cmp name_total _ _ (by_name _ c.requires.0) (by_name _ c.requires.1)).paired)

pub returns-clause-partition : goal.returns-clause-partition
returns-clause-partition c =
    ok_with _ _ c.joined.result c.joined.ensures (λ found is. subst (λ p. IsPartition (map part_text c.args.old.now) (map part_text c.args.new.now) p) (sym is) (join name_cmp part_cmp name_total _ _ (by_name _ c.requires.0) (by_name _ c.requires.1)).divided)

pub returns-clause-ascends : goal.returns-clause-ascends
returns-clause-ascends c =
    let is = (join name_cmp part_cmp name_total (map part_text c.args.old.now) (map part_text c.args.new.now) (by_name _ c.requires.0) (by_name _ c.requires.1)).ordered in
    let both : AreAscending (joined name_cmp (map part_text c.args.old.now) (map part_text c.args.new.now)) = record { gone = is.old_up c.requires.0; comes = is.new_up c.requires.1; olds = is.old_pairs_up c.requires.0; news = is.new_pairs_up c.requires.1 } in
    ok_with _ _ c.joined.result c.joined.ensures (λ found e. subst AreAscending (sym e) both)
