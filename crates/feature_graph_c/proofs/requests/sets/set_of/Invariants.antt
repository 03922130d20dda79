use Rattle.std.proofs.Common.{◌≡◌, ℕ, length, drop, IsTrue}
use Rattle.std.specs.Prelude.{◌||◌}
use Rattle.digraphs.specs.Bits.{has}
use Rattle.walk_engine.specs.Walks.{is_in}
use Rattle.feature_graph_c.specs.requests.Requests.{are_below}
use Rattle.feature_graph_c.proofs.requests.sets.set_of.Given as goal

-- The nodes so far and those to come are all nodes, and those to come are nodes.
abbrev pub invariant-loop-at : goal.invariant-loop-at
invariant-loop-at l = record {
  size : length l.set ≡ l.count;
  below : IsTrue (are_below l.count (drop l.at l.nodes));
  rest : (n : ℕ) → (has l.set n || is_in (drop l.at l.nodes) n) ≡ is_in l.nodes n;
}
