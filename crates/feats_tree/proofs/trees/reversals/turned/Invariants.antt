use Rattle.std.proofs.Common.{◌≡◌, map, take}
use Rattle.feats_tree.specs.trees.Reversals.{turned}
use Rattle.feats_tree.proofs.trees.reversals.turned.Given as goal

abbrev pub invariant-loop-link : goal.invariant-loop-link
invariant-loop-link l = l.new.items ≡ map turned (take l.link-index l.links)
