use Rattle.std.proofs.Common.{◌≡◌, drop}
use Rattle.std.specs.List.{list_any}
use Rattle.feats_tree.specs.trees.inner.Nodes.{is_hiding_at}
use Rattle.feats_tree.specs.declared.trees.trees.Branch.{Branch}
use Rattle.feats_tree.proofs.trees.trees.is_any_hiding.Given as goal

abbrev pub invariant-loop-branch : goal.invariant-loop-branch
invariant-loop-branch l =
    let test = λ (b : Branch). is_hiding_at l.nodes b.node in
    list_any test l.branches ≡ list_any test (drop l.branch-index l.branches)
