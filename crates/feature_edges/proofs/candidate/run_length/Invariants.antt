use Rattle.std.proofs.Common.{take}
use Rattle.std.specs.Prelude.{All}
use Rattle.feature_edges.specs.inner.Keys.{IsPair}
use Rattle.feature_edges.proofs.candidate.run_length.Given as goal

abbrev pub invariant-loop-ix : goal.invariant-loop-ix
invariant-loop-ix l = All (IsPair l.key) (take l.ix l.keys)
