use Rattle.std.proofs.Common.{◌≡◌, ◌≤◌, ◌+◌, length}
use Rattle.feature_graph.specs.Packages.{member_packages, member_packages_from}
use Rattle.feature_graph.proofs.set.FeatureSet.package_count.Given as goal

abbrev pub invariant-packages : goal.invariant-packages
invariant-packages l = record {
  within : l.found ≤ l.package_ix;
  counted : l.found + length (member_packages_from l.self.graph.tables l.self.members l.package_ix) ≡ length (member_packages l.self.graph.tables l.self.members);
}
