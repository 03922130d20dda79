use Rattle.feature_edges.specs.Warnings.{warning_of}
use Rattle.feature_edges.proofs.SameLists.{AreSame}
use Rattle.feature_core.proofs.equality.same_warnings.Given as goal

abbrev pub invariant-loop-ix : goal.invariant-loop-ix
invariant-loop-ix l = AreSame warning_of l.a l.b l.ix
