use Rattle.std.proofs.Common.{take}
use Rattle.plan_words.specs.inner.Lookups.{Marks}
use Rattle.plan_words.proofs.lookups.marked.Given as goal

abbrev pub invariant-loop-number : goal.invariant-loop-number
invariant-loop-number l =
    Marks l.count l.list.items (take l.number-index l.numbers)
