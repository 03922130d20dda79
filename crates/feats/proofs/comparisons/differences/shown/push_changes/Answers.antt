use Rattle.std.proofs.Common.{map}
use Rattle.feats_diff.specs.texts.Views.{difference_text}
use Rattle.feats.proofs.ShownLists.{changes_more}
use Rattle.feats.proofs.comparisons.differences.shown.push_changes.Goals as goal

pub loop-change-preserved : goal.loop-change-preserved
loop-change-preserved c =
    changes_more c.args.all c.args.changes.now c.loop-change.change-index c.change-item.result c.loop-change.left.now c.rest_after-left.result.now c.as_slice.result.now _ (map difference_text c.loop-change.shown.items)
    (map difference_text c.push_change.new.shown.items) c.loop-change-test.true c.change-item.is c.loop-change.invariant c.in_ok-push_change.ensures c.as_slice.ensures.value c.rest_after-left.ensures
