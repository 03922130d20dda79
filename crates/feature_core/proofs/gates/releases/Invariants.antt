use Rattle.feature_core.proofs.ReleaseSteps.{AreSplit}
use Rattle.feature_core.proofs.gates.releases.Given as goal

abbrev pub invariant-loop-number : goal.invariant-loop-number
invariant-loop-number l = AreSplit l.weak.entries l.edges l.number l.released.items
