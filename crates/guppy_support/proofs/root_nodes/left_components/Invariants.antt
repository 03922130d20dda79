use Rattle.std.proofs.Common.{◌≡◌, ◌<◌, ℕ, length, All}
use Rattle.std.specs.Prelude.{◌||◌}
use Rattle.std.specs.List.{list_any}
use Rattle.digraphs.specs.Bits.{has}
use Rattle.guppy_support.specs.Views.{leaves, links_in_order}
use Rattle.guppy_support.proofs.root_nodes.left_components.Given as goal

-- The components found so far, and those that the remaining links leave, are all.
abbrev pub invariant-loop-edge : goal.invariant-loop-edge
invariant-loop-edge l = record {
  size : length l.left ≡ l.order.count;
  within : All (λ k. k < length l.digraph.edges) l.edge-iterator;
  left : (c : ℕ) → c < l.order.count → (has l.left c || list_any (leaves l.reading l.digraph.edges l.order c) l.edge-iterator)
      ≡ list_any (leaves l.reading l.digraph.edges l.order c) (links_in_order l.reading l.digraph.edges l.order.list l.members);
}
