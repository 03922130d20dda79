use Rattle.std.proofs.Common.{◌≡◌, ◌++◌}
use Rattle.digraphs.specs.Bits.{members}
use Rattle.feature_graph_c.proofs.requests.walking.numbers_in.Given as goal

-- The numbers so far and those to come are all members.
abbrev pub invariant-loop-number : goal.invariant-loop-number
invariant-loop-number l = l.numbers.items ++ l.number-iterator ≡ members l.set
