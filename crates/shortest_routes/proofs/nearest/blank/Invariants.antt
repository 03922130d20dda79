use Rattle.std.proofs.Common.{◌≡◌, None, replicate}
use Rattle.shortest_routes.proofs.nearest.blank.Given as goal

abbrev pub invariant-loop-owner : goal.invariant-loop-owner
invariant-loop-owner l = l.nearest.items ≡ replicate l._owner None
