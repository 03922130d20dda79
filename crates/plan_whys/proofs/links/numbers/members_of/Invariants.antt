use Rattle.std.proofs.Common.{◌≡◌, ◌++◌}
use Rattle.digraphs.specs.Bits.{members}
use Rattle.plan_whys.proofs.links.numbers.members_of.Given as goal

abbrev pub invariant-loop-number : goal.invariant-loop-number
invariant-loop-number l = members l.set ≡ l.numbers.items ++ l.number-iterator
