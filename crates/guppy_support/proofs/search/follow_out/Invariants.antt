use Rattle.std.proofs.Common.{◌≡◌, ◌-◌, length}
use Rattle.guppy_support.specs.declared.reading.Reading.TheVariants.{Forward}
use Rattle.guppy_support.specs.inner.Search.{Finds, LeadsTo}
use Rattle.guppy_support.proofs.search.follow_out.Given as goal

abbrev pub invariant-loop-number : goal.invariant-loop-number
invariant-loop-number g l = record {
  size : length l.found ≡ l.digraph.nodes;
  finds : Finds (LeadsTo Forward l.digraph.edges (g.F.EdgeFilter.is_followed l.filter) l.node (l.number - l.initial.number)) l.fn.found l.fn.waiting.items l.found l.waiting.items;
}
