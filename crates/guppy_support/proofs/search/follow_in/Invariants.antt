use Rattle.std.proofs.Common.{◌≡◌, ◌-◌, length}
use Rattle.digraphs.specs.Graph.{targets}
use Rattle.digraphs.specs.Rows.{places}
use Rattle.guppy_support.specs.declared.reading.Reading.TheVariants.{Backward}
use Rattle.guppy_support.specs.inner.Search.{Finds, LeadsTo}
use Rattle.guppy_support.proofs.search.follow_in.Given as goal

abbrev pub invariant-loop-number : goal.invariant-loop-number
invariant-loop-number g l = record {
  size : length l.found ≡ l.digraph.nodes;
  finds : Finds (LeadsTo Backward l.digraph.edges (g.F.EdgeFilter.is_followed l.filter) l.node l.place) l.fn.found l.fn.waiting.items l.found l.waiting.items;
}

abbrev pub decreases-loop-number : goal.decreases-loop-number
decreases-loop-number g l = length (places l.node (targets l.digraph.edges)) - l.place
