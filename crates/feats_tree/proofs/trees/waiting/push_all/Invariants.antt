use Rattle.std.proofs.Common.{◌≡◌, ◌++◌, map, drop}
use Rattle.feats_tree.specs.trees.inner.Walks.{branch_at, waits_of}
use Rattle.feats_tree.proofs.trees.waiting.push_all.Given as goal

abbrev pub invariant-loop-place : goal.invariant-loop-place
invariant-loop-place l = waits_of l.waiting.items ≡ map (branch_at l.depth) (drop l.place l.nodes) ++ waits_of l.initial.waiting.items
