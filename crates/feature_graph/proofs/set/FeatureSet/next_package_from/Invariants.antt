use Rattle.std.proofs.Common.{◌≡◌}
use Rattle.feature_graph.specs.Packages.{member_packages_from}
use Rattle.feature_graph.proofs.set.FeatureSet.next_package_from.Given as goal

abbrev pub invariant-packages : goal.invariant-packages
invariant-packages l = member_packages_from l.self.graph.tables l.self.members l.from ≡ member_packages_from l.self.graph.tables l.self.members l.package_ix
