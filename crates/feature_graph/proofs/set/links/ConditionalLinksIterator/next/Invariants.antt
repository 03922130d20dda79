-- Each turn skips an unconditional edge, so the remaining links stay the same.
use Rattle.std.proofs.Common.{◌≡◌, ◌<◌, length, All}
use Rattle.feature_graph.specs.Ordered.{full_links}
use Rattle.feature_graph.specs.Views.{built_of, graph_of}
use Rattle.feature_graph.proofs.set.links.ConditionalLinksIterator.next.Given as goal

abbrev pub invariant-loop-number : goal.invariant-loop-number
invariant-loop-number l = record {
  within : All (λ k. k < length (built_of l.self-inside.graph).edges) l.self-inside.numbers;
  left : full_links (graph_of l.self-inside.graph) l.self-inside.numbers ≡ l.fn.self;
}

abbrev pub decreases-loop-number : goal.decreases-loop-number
decreases-loop-number l = length l.self-inside.numbers
