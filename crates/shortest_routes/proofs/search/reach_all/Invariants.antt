use Rattle.std.proofs.Common.{ℕ, take, Contains}
use Rattle.shortest_routes.specs.inner.Searches.{Grows, HasStep, IsReached}
use Rattle.shortest_routes.proofs.search.reach_all.Given as goal

abbrev pub invariant-loop-node : goal.invariant-loop-node
invariant-loop-node l = record {
  grows : Grows (IsReached l.nodes l.step) l.initial.steps.items l.steps.items l.initial.found.items l.found.items;
  all : (n : ℕ) → Contains (take l.node-index l.nodes) n → HasStep l.steps.items n;
}
