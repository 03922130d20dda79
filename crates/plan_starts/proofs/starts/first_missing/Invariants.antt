use Rattle.std.proofs.Common.{◌≡◌, map, drop}
use Rattle.cargo_workspaces.specs.Views.{package_text}
use Rattle.plan_starts.specs.Lists.{first_from}
use Rattle.plan_starts.specs.Starts.{first_missing, missing_at}
use Rattle.plan_starts.specs.StartViews.{starts_text}
use Rattle.plan_starts.proofs.starts.first_missing.Given as goal

abbrev pub invariant-loop-ix : goal.invariant-loop-ix
invariant-loop-ix l =
    first_missing l.split l.on (starts_text l.starts) (map package_text l.packages) ≡ first_from (missing_at l.split l.on (starts_text l.starts)) l.ix (map package_text (drop l.ix l.packages))
