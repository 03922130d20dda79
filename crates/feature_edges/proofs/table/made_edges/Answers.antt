use Rattle.std.proofs.Common.{[]}
use Rattle.feature_edges.proofs.SourceLemmas.{kept_none}
use Rattle.feature_edges.proofs.ValueLemmas.{made_none}
use Rattle.feature_edges.proofs.table.made_edges.Goals as goal

pub fill-requires-clause-made : goal.fill-requires-clause-made
fill-requires-clause-made c = record {
  kept = [];
  is_kept = kept_none c.args.material.numbers.graph.now;
  made = made_none c.args.material.numbers.graph.now _ c.in_ok-made.ensures.weak c.in_ok-made.ensures.edges c.in_ok-made.ensures.ends c.in_ok-made.ensures.last;
}
