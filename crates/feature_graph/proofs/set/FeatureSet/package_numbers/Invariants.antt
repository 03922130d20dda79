use Rattle.feature_graph.proofs.PackageSetLemmas.{MarkedBelow}
use Rattle.feature_graph.proofs.set.FeatureSet.package_numbers.Given as goal

abbrev pub invariant-packages : goal.invariant-packages
invariant-packages l = MarkedBelow l.self.graph.tables l.self.members l.package_ix l.packages
