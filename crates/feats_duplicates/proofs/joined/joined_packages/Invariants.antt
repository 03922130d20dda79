use Rattle.std.proofs.Common.{◌≡◌, ◌++◌, map, drop}
use Rattle.cargo_workspaces.specs.Views.{package_text}
use Rattle.feats_duplicates.specs.Joined.{joined_from, joined_packages}
use Rattle.feats_duplicates.specs.inner.JoinViews.{join_text}
use Rattle.feats_duplicates.proofs.joined.joined_packages.Given as goal

abbrev pub invariant-loop-ix : goal.invariant-loop-ix
invariant-loop-ix l =
    let joins = map join_text l.joins in
    joined_packages joins (map package_text l.packages) ≡ map package_text l.joined.items ++ joined_from joins l.ix (map package_text (drop l.ix l.packages))
