use Rattle.std.proofs.Common.{length}
use Rattle.feature_edges.specs.inner.Made.{AreWalked}
use Rattle.feature_edges.proofs.table.MadeEdges.add_all.Given as goal

abbrev pub invariant-loop-rest : goal.invariant-loop-rest
invariant-loop-rest l = AreWalked l.material.numbers.graph.now l.keys l.rest l.initial.self l.self

abbrev pub decreases-loop-rest : goal.decreases-loop-rest
decreases-loop-rest l = length l.rest
