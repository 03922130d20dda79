use Rattle.std.proofs.Common.{◌≡◌, ◌++◌, drop}
use Rattle.std.specs.List.{concat}
use Rattle.feature_graph_c.specs.binary.Records.{listed}
use Rattle.feature_graph_c.proofs.binary.pushing.push_list.Given as goal

-- The bytes so far and the entries to come are all bytes.
abbrev pub invariant-loop-at : goal.invariant-loop-at
invariant-loop-at g l = l.bytes.items ++ concat (drop l.at (g.E.Entries.entries l.list)) ≡ l.fn.bytes.items ++ listed (g.E.Entries.entries l.list)
