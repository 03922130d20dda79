use Rattle.std.proofs.Common.{◌≡◌, ◌+◌, ◌<◌, length, All}
use Rattle.std.specs.Prelude.{IfSome, option_to_list}
use Rattle.guppy_support.specs.inner.Cursors.{links_left}
use Rattle.guppy_support.proofs.links_in_order.LinksInOrderIterator.next.Given as goal

abbrev pub invariant-loop-self : goal.invariant-loop-self
invariant-loop-self l = record {
  size : length l.self-inside.members.now ≡ l.self-inside.digraph.now.nodes;
  start : IfSome l.self-inside.start (λ v. v < l.self-inside.digraph.now.nodes);
  nodes : All (λ v. v < l.self-inside.digraph.now.nodes) l.self-inside.nodes;
  left : links_left l.self-inside.reading l.self-inside.digraph.now.edges l.self-inside.members.now l.self-inside.start l.self-inside.passed l.self-inside.nodes ≡ l.fn.self;
}

-- The number of nodes from the current one on decreases.
abbrev pub decreases-loop-self : goal.decreases-loop-self
decreases-loop-self l = length (option_to_list l.self-inside.start) + length l.self-inside.nodes
