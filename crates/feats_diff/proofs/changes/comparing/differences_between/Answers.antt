use Rattle.std.proofs.Common.{map}
use Rattle.feats_diff.specs.changes.Views.{change_text, part_text}
use Rattle.feats_diff.proofs.Whole.{whole_differences, whole_partition}
use Rattle.feats_diff.proofs.changes.comparing.differences_between.Goals as goal

pub returns-clause-differences : goal.returns-clause-differences
returns-clause-differences c =
    whole_differences (map part_text c.args.old.now) (map part_text c.args.new.now) c.in_ok-sorted_old.sorted_old.items c.in_ok-sorted_new.sorted_new.items c.deref.result.now c.deref-2.result.now c.deref-3.result.now c.deref-4.result.now
    c.in_ok-same.same c.in_ok-others.others c.deref-5.result.now c.deref-6.result.now c.deref.ensures.value c.deref-2.ensures.value c.deref-3.ensures.value c.deref-4.ensures.value c.deref-5.ensures.value c.deref-6.ensures.value
    (map change_text c.in_ok-kept.kept.items) (map change_text c.in_ok-moved.moved.items) c.in_ok-kept.ensures c.in_ok-moved.ensures c.in_ok-sorted_old.ensures c.in_ok-sorted_new.ensures
    c.in_ok-same.ensures.paired c.in_ok-others.ensures.paired c.in_ok-same.ensures.ascends c.in_ok-others.ensures.ascends

pub returns-clause-partition : goal.returns-clause-partition
returns-clause-partition c =
    whole_partition (map part_text c.args.old.now) (map part_text c.args.new.now) c.in_ok-sorted_old.sorted_old.items c.in_ok-sorted_new.sorted_new.items c.deref.result.now c.deref-2.result.now c.deref-3.result.now c.deref-4.result.now
    c.in_ok-same.same c.in_ok-others.others c.deref-5.result.now c.deref-6.result.now c.deref.ensures.value c.deref-2.ensures.value c.deref-3.ensures.value c.deref-4.ensures.value c.deref-5.ensures.value c.deref-6.ensures.value
    (map change_text c.in_ok-kept.kept.items) (map change_text c.in_ok-moved.moved.items) c.in_ok-kept.ensures c.in_ok-moved.ensures c.in_ok-sorted_old.ensures c.in_ok-sorted_new.ensures
    c.in_ok-same.ensures.partition c.in_ok-others.ensures.partition
