-- Each turn skips a package without a member, so the remaining packages with a member stay the same.
use Rattle.std.proofs.Common.{◌≡◌, ◌<◌, length, All}
use Rattle.feature_graph.specs.PackageViews.{with_members}
use Rattle.feature_graph.proofs.set.FeatureSet.next_member.Given as goal

abbrev pub invariant-loop-package_ix : goal.invariant-loop-package_ix
invariant-loop-package_ix l = record {
  within : All (λ p. p < length l.self.graph.tables.packages) l.numbers;
  left : with_members l.self l.numbers ≡ with_members l.self l.fn.numbers;
}

abbrev pub decreases-loop-package_ix : goal.decreases-loop-package_ix
decreases-loop-package_ix l = length l.numbers
