use Rattle.std.proofs.Common.{◌≡◌, ◌<◌, ℕ, length, drop}
use Rattle.std.specs.Prelude.{◌||◌}
use Rattle.std.specs.List.{list_any}
use Rattle.digraphs.specs.Bits.{has}
use Rattle.guppy_support.specs.Cycles.{nodes_of, has_loop}
use Rattle.guppy_support.proofs.cycles.looped_components.Given as goal

-- The components found so far, and those of the remaining edges, are all.
abbrev pub invariant-loop-number : goal.invariant-loop-number
invariant-loop-number l = record {
  size : length l.looped ≡ l.order.count;
  looped : (c : ℕ) → c < l.order.count → (has l.looped c || list_any (has_loop (drop l.number l.digraph.edges)) (nodes_of l.order c))
      ≡ list_any (has_loop l.digraph.edges) (nodes_of l.order c);
}
