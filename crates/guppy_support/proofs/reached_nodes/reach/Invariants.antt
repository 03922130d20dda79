use Rattle.std.proofs.Common.{◌≡◌, ◌⊎◌, ℕ, [], true, length}
use Rattle.std.specs.Prelude.{Contains}
use Rattle.digraphs.specs.Bits.{has}
use Rattle.guppy_support.specs.Reaches.{FollowedStep}
use Rattle.guppy_support.specs.inner.Search.{IsSearch}
use Rattle.guppy_support.proofs.reached_nodes.reach.Given as goal

abbrev pub invariant-loop-node : goal.invariant-loop-node
invariant-loop-node g l = record {
  size : length l.found ≡ l.digraph.nodes;
  none : l.waiting.items ≡ [];
  known : IsSearch (FollowedStep l.reading l.digraph.edges (g.F.EdgeFilter.is_followed l.filter)) (has l.initials) l.found [];
  initial : (v : ℕ) → Contains l.node-iterator v → has l.initials v ≡ true;
  passed : (v : ℕ) → has l.initials v ≡ true → (has l.found v ≡ true) ⊎ Contains l.node-iterator v;
}
