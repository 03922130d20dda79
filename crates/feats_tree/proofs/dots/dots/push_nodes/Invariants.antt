use Rattle.std.proofs.Common.{◌≡◌, ◌++◌, drop, map}
use Rattle.feats_tree.specs.dots.Dots.{nodes_in}
use Rattle.feats_tree.specs.dots.Views.{node_text}
use Rattle.feats_tree.proofs.dots.dots.push_nodes.Given as goal

abbrev pub invariant-loop-number : goal.invariant-loop-number
invariant-loop-number l =
    l.initial.text.items ++ nodes_in l.cluster 0 (map node_text l.nodes) ≡ l.text.items ++ nodes_in l.cluster l.number (map node_text (drop l.number l.nodes))
