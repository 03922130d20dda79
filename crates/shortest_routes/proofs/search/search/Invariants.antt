use Rattle.std.proofs.Common.{◌≡◌, ◌+◌, ℕ, List, length}
use Rattle.shortest_routes.specs.inner.Links.{AreBefore}
use Rattle.shortest_routes.specs.inner.Searches.{blanks}
use Rattle.shortest_routes.specs.inner.Steps.{IsSearched}
use Rattle.shortest_routes.proofs.search.search.Given as goal

abbrev pub invariant-loop-alloc : goal.invariant-loop-alloc
invariant-loop-alloc l = record {
  size : length l.steps.items ≡ length l.initial.steps.items;
  searched : (links : List (ℕ × ℕ)) (targets : List ℕ) → AreBefore links l.lists → IsSearched links targets 0 l.initial.level.items l.initial.steps.items → IsSearched links targets l.distance l.level.items l.steps.items;
}

abbrev pub decreases-loop-alloc : goal.decreases-loop-alloc
decreases-loop-alloc l = blanks l.steps.items + length l.level.items
