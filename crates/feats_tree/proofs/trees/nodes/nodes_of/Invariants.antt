use Rattle.std.proofs.Common.{◌≡◌, ℕ, false, take}
use Rattle.feats_tree.specs.trees.Branches.{ends_of}
use Rattle.feats_tree.specs.trees.inner.Nodes.{ends_at, shown_at}
use Rattle.feats_tree.proofs.trees.nodes.nodes_of.Given as goal

abbrev pub invariant-loop-link : goal.invariant-loop-link
invariant-loop-link l = record {
  ends : (node : ℕ) → ends_at l.nodes.items node ≡ ends_of (take l.link-index l.links) node;
  shown : (node : ℕ) → shown_at l.nodes.items node ≡ false;
}
