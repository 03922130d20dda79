use Rattle.feats_tree.proofs.PairLemmas.{turned_more}
use Rattle.feats_tree.proofs.trees.reversals.turned.Goals as goal

pub loop-link-preserved : goal.loop-link-preserved
loop-link-preserved c = turned_more c.args.links.now c.loop-link.link-index _ _ _ c.loop-link-test.true c.loop-link.invariant c.in_ok-push.ensures.items
