use Rattle.std.proofs.Common.{take}
use Rattle.feats_policies.specs.checks.inner.Marks.{Marks}
use Rattle.feats_policies.proofs.checks.marks.marked.Given as goal

abbrev pub invariant-loop-number : goal.invariant-loop-number
invariant-loop-number l =
    Marks l.count l.list.items (take l.number-index l.numbers)
