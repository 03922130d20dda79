use Rattle.std.proofs.Common.{◌≡◌, ◌++◌, drop, flat_map, string_bytes}
use Rattle.feats_tree.specs.trees.Lines.{bar}
use Rattle.feats_tree.proofs.trees.lines.push_bars.Given as goal

abbrev pub invariant-loop-goes_on : goal.invariant-loop-goes_on
invariant-loop-goes_on l = string_bytes l.initial.text ++ flat_map bar l.levels ≡ string_bytes l.text ++ flat_map bar (drop l.goes_on-index l.levels)
