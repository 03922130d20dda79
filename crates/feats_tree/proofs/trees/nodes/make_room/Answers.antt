use Rattle.std.proofs.Common.{refl}
use Rattle.feats_tree.proofs.NodeLemmas.{length_more, same_push}
use Rattle.feats_tree.proofs.trees.nodes.make_room.Goals as goal

pub loop-missing-preserved : goal.loop-missing-preserved
loop-missing-preserved c = record {
  grows = length_more c.loop-missing._missing c.loop-missing.nodes.items c.push.new.self.items _ c.loop-missing.invariant.grows c.in_ok-push.ensures.items;
  same = same_push _ c.loop-missing.nodes.items c.push.new.self.items _ c.loop-missing.invariant.same c.in_ok-push.ensures.items c.new.ensures.items refl;
}
