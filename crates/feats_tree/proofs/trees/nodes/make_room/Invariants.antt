use Rattle.std.proofs.Common.{◌≤◌, length}
use Rattle.feats_tree.specs.trees.inner.Nodes.{AreSame}
use Rattle.feats_tree.proofs.trees.nodes.make_room.Given as goal

abbrev pub invariant-loop-missing : goal.invariant-loop-missing
invariant-loop-missing l = record {
  grows : l._missing ≤ length l.nodes.items;
  same : AreSame l.initial.nodes.items l.nodes.items;
}
