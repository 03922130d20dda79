use Rattle.std.proofs.Common.{◌∙◌}
use Rattle.feats_tree.proofs.NodeLemmas.{ends_added}
use Rattle.feats_tree.proofs.trees.nodes.nodes_of.Goals as goal

pub loop-link-preserved : goal.loop-link-preserved
loop-link-preserved c = record {
  ends = λ node. ends_added c.args.links.now c.loop-link.link-index _ node _ _ c.loop-link-test.true (c.loop-link.invariant.ends node) (c.in_ok-add_link.ensures.ends node);
  shown = λ node. c.in_ok-add_link.ensures.shown node ∙ c.loop-link.invariant.shown node;
}
