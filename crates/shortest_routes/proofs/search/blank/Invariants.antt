use Rattle.std.proofs.Common.{◌≡◌, None, replicate}
use Rattle.shortest_routes.proofs.search.blank.Given as goal

abbrev pub invariant-loop-node : goal.invariant-loop-node
invariant-loop-node l = l.steps.items ≡ replicate l._node None
