use Rattle.feature_edges.specs.inner.Made.{AreMadeBelow}
use Rattle.feature_edges.specs.inner.Collects.{AreWarningsBelow}
use Rattle.feature_edges.proofs.table.MadeEdges.add_packages.Given as goal

abbrev pub invariant-loop-ix : goal.invariant-loop-ix
invariant-loop-ix l = AreMadeBelow l.material.numbers.graph.now l.ix l.self × AreWarningsBelow l.material.numbers.graph.now l.ix l.room.collected
