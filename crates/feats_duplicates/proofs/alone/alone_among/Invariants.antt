use Rattle.std.proofs.Common.{◌≡◌, ◌++◌, ℕ, map, drop}
use Rattle.cargo_workspaces.specs.Views.{package_text, texts}
use Rattle.cargo_workspaces.specs.Workspaces.{PackageText}
use Rattle.cargo_plans.specs.plan_starts.Lists.{joined_from}
use Rattle.feats_duplicates.specs.Alone.{all_places, alone_among, alone_in}
use Rattle.feats_duplicates.specs.Views.{alone_text, member_unit_text}
use Rattle.feats_duplicates.proofs.alone.alone_among.Given as goal

abbrev pub invariant-loop-ix : goal.invariant-loop-ix
invariant-loop-ix l =
    alone_among (map package_text l.packages) (texts l.names) (map member_unit_text l.rows)
    ≡ map alone_text l.list.items
    ++ joined_from (λ (p : ℕ) (x : PackageText). alone_in (all_places (texts l.names)) (map member_unit_text l.rows) p) l.ix (map package_text (drop l.ix l.packages))
