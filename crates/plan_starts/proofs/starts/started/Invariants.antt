use Rattle.std.proofs.Common.{◌≡◌, ◌&&◌, ℕ, ◌++◌, map, drop}
use Rattle.digraphs.specs.Bits.{has}
use Rattle.cargo_workspaces.specs.Views.{package_text}
use Rattle.cargo_workspaces.specs.Workspaces.{PackageText}
use Rattle.plan_rows.specs.Tables.{each_from}
use Rattle.plan_starts.specs.Targets.{builds}
use Rattle.plan_starts.specs.TargetViews.{rules_text}
use Rattle.plan_starts.proofs.starts.started.Given as goal

abbrev pub invariant-loop-ix : goal.invariant-loop-ix
invariant-loop-ix g l =
    let f = λ (p : ℕ) (x : PackageText). has l.selected p && builds (rules_text g.P.Platform.holds l.rules) l.dev l.macros p x in
    each_from f 0 (map package_text l.packages) ≡ l.flags.items ++ each_from f l.ix (map package_text (drop l.ix l.packages))
