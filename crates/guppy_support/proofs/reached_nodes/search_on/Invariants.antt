use Rattle.std.proofs.Common.{◌<◌, ℕ}
use Rattle.std.specs.Prelude.{Contains}
use Rattle.guppy_support.specs.Reaches.{FollowedStep}
use Rattle.guppy_support.specs.inner.Search.{GoesOn, left_over}
use Rattle.guppy_support.proofs.reached_nodes.search_on.Given as goal

abbrev pub invariant-loop-node : goal.invariant-loop-node
invariant-loop-node g l = record {
  nodes : (v : ℕ) → Contains l.waiting.items v → v < l.digraph.nodes;
  on : GoesOn (FollowedStep l.reading l.digraph.edges (g.F.EdgeFilter.is_followed l.filter)) l.fn.found l.fn.waiting.items l.found l.waiting.items;
}

abbrev pub decreases-loop-node : goal.decreases-loop-node
decreases-loop-node g l = left_over l.found l.waiting.items
