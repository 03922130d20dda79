use Rattle.std.proofs.Common.{◌≡◌, ℕ, [], length}
use Rattle.shortest_routes.specs.inner.Links.{nodes_before}
use Rattle.shortest_routes.proofs.links.empty_lists.Given as goal

abbrev pub invariant-loop-list : goal.invariant-loop-list
invariant-loop-list l = record {
  size : length l.lists.items ≡ l._list;
  empty : (n : ℕ) → nodes_before l.lists.items n ≡ [];
}
