use Rattle.std.proofs.Common.{ℕ, List}
use Rattle.shortest_routes.specs.inner.Steps.{AreSteps}
use Rattle.shortest_routes.proofs.ChainLemmas.{IsBegun, left_at}
use Rattle.shortest_routes.proofs.chains.route_from.Given as goal

abbrev pub invariant-loop-at : goal.invariant-loop-at
invariant-loop-at l = (links : List (ℕ × ℕ)) (targets : List ℕ) → AreSteps links targets l.table → IsBegun links targets l.table l.start l.route.items l.at

abbrev pub decreases-loop-at : goal.decreases-loop-at
decreases-loop-at l = left_at l.table l.at
