use Rattle.std.proofs.Common.{map}
use Rattle.feats_diff.specs.texts.Views.{difference_text}
use Rattle.feats.proofs.ShownLists.{shown_all}
use Rattle.feats.proofs.comparisons.differences.answers.all_shown.Goals as goal

pub returns : goal.returns
returns c =
    shown_all c.args.differences.now c.args.whys.now c.deref.result.now c.deref-3.result.now c.deref-4.result.now c.deref-6.result.now c.deref-2.result.now c.deref-5.result.now c.deref-7.result.now
    c.deref.ensures.value c.deref-3.ensures.value c.deref-4.ensures.value c.deref-6.ensures.value c.deref-2.ensures.value c.deref-5.ensures.value c.deref-7.ensures.value
    (map difference_text c.push_comes.new.shown.items) (map difference_text c.push_gone.new.shown.items) (map difference_text c.push_changes.new.shown.items) (map difference_text c.push_changes-2.new.shown.items)
    c.new-shown.result.items c.new-shown.ensures.items c.in_ok-push_comes.ensures c.in_ok-push_gone.ensures c.in_ok-push_changes.ensures c.in_ok-push_changes-2.ensures
