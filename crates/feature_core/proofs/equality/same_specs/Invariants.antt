use Rattle.feature_edges.specs.guppy_packages.Platform.{spec_text}
use Rattle.feature_edges.proofs.SameLists.{AreSame}
use Rattle.feature_core.proofs.equality.same_specs.Given as goal

abbrev pub invariant-loop-ix : goal.invariant-loop-ix
invariant-loop-ix l = AreSame spec_text l.a l.b l.ix
