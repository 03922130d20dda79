use Rattle.std.proofs.Common.{◌≡◌, drop, map}
use Rattle.std.specs.Prelude.{◌==◌}
use Rattle.std.specs.List.{list_any}
use Rattle.feats_tree.specs.dots.Dots.{NodeText}
use Rattle.feats_tree.specs.dots.Views.{node_text}
use Rattle.feats_tree.proofs.dots.dots.is_used.Given as goal

abbrev pub invariant-loop-node : goal.invariant-loop-node
invariant-loop-node l =
    let test = λ (node : NodeText). node.cluster == l.cluster in
    list_any test (map node_text l.nodes) ≡ list_any test (map node_text (drop l.node-index l.nodes))
