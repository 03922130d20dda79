use Rattle.std.proofs.Common.{◌≡◌, ◌++◌, drop}
use Rattle.digraphs.specs.Bits.{has}
use Rattle.plan_whys.specs.links.inner.Pairs.{counted_ends}
use Rattle.plan_whys.proofs.links.ways.way_pairs.Given as goal

abbrev pub invariant-loop-number : goal.invariant-loop-number
invariant-loop-number l = counted_ends (has l.members) l.table.holds.ways ≡ l.pairs.items ++ counted_ends (has l.members) (drop l.number l.table.holds.ways)
