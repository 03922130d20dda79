use Rattle.std.proofs.Common.{◌≡◌, ◌++◌, flat_map, map, drop}
use Rattle.cargo_workspaces.specs.Views.{package_text}
use Rattle.feats_duplicates.specs.Views.{alone_text}
use Rattle.feats_duplicates.specs.Joined.{joins_at, joins_of}
use Rattle.feats_duplicates.specs.inner.JoinViews.{join_text}
use Rattle.feats_duplicates.proofs.joins.joins_of.Given as goal

abbrev pub invariant-loop-alone : goal.invariant-loop-alone
invariant-loop-alone l =
    let packages = map package_text l.packages in
    joins_of packages (map alone_text l.list) ≡ map join_text l.joins.items ++ flat_map (joins_at packages) (map alone_text (drop l.alone-index l.list))
