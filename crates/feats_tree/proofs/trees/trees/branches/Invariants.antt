use Rattle.std.proofs.Common.{◌+◌, length}
use Rattle.feats_tree.specs.trees.inner.Nodes.{total}
use Rattle.feats_tree.specs.trees.inner.Walks.{IsWalk, waits_of}
use Rattle.feats_tree.proofs.trees.trees.branches.Given as goal

abbrev pub invariant-loop-next : goal.invariant-loop-next
invariant-loop-next l = IsWalk l.links l.roots l.limit l.nodes.items l.shown.items (waits_of l.waiting.items)

abbrev pub decreases-loop-next : goal.decreases-loop-next
decreases-loop-next l = total l.nodes.items + length l.waiting.items
