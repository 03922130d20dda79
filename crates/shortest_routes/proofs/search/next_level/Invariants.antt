use Rattle.std.proofs.Common.{ℕ, [], take, Contains}
use Rattle.shortest_routes.specs.inner.Links.{nodes_before}
use Rattle.shortest_routes.specs.inner.Searches.{Grows, HasStep, IsFrom}
use Rattle.shortest_routes.proofs.search.next_level.Given as goal

abbrev pub invariant-loop-node : goal.invariant-loop-node
invariant-loop-node l = record {
  grows : Grows (IsFrom (nodes_before l.lists) l.level l.distance) l.initial.steps.items l.steps.items [] l.next.items;
  all : (n node : ℕ) → Contains (take l.node-index l.level) node → Contains (nodes_before l.lists node) n → HasStep l.steps.items n;
}
