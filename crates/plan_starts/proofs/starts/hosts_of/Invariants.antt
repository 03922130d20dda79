use Rattle.std.proofs.Common.{◌≡◌, ◌++◌, map, drop}
use Rattle.cargo_workspaces.specs.Views.{package_text}
use Rattle.plan_rows.specs.Tables.{each_from}
use Rattle.plan_starts.specs.Starts.{starts_on_host}
use Rattle.plan_starts.proofs.starts.hosts_of.Given as goal

abbrev pub invariant-loop-ix : goal.invariant-loop-ix
invariant-loop-ix l =
    let f = starts_on_host l.macros l.others in
    each_from f 0 (map package_text l.packages) ≡ l.flags.items ++ each_from f l.ix (map package_text (drop l.ix l.packages))
