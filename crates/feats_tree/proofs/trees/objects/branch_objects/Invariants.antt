use Rattle.std.proofs.Common.{◌≡◌, ◌++◌, drop, flat_map, map}
use Rattle.feats_tree.specs.trees.Objects.{object_of}
use Rattle.feats_tree.specs.trees.Titles.{title_text}
use Rattle.feats_tree.proofs.trees.objects.branch_objects.Given as goal

abbrev pub invariant-loop-branch : goal.invariant-loop-branch
invariant-loop-branch l = flat_map (object_of (map title_text l.titles)) l.branches ≡ l.text.items ++ flat_map (object_of (map title_text l.titles)) (drop l.branch-index l.branches)
