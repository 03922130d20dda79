-- The values that nodes contain.
use Rattle.feats_tree.specs.dots.Dots.{NodeText}
use Rattle.feats_tree.specs.declared.dots.dots.DotNode.{DotNode}

abbrev pub node_text : DotNode → NodeText
node_text node = record { cluster = node.cluster; title = node.title.now }
