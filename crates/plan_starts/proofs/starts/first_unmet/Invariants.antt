use Rattle.std.proofs.Common.{◌≡◌, ℕ, if◌then◌else◌, map, drop}
use Rattle.std.specs.Prelude.{None, Option}
use Rattle.digraphs.specs.Bits.{has}
use Rattle.cargo_workspaces.specs.Views.{package_text}
use Rattle.cargo_workspaces.specs.Workspaces.{PackageText}
use Rattle.plan_starts.specs.Lists.{first_from}
use Rattle.plan_starts.specs.Starts as spec
use Rattle.plan_starts.specs.TargetViews.{rules_text}
use Rattle.plan_starts.proofs.starts.first_unmet.Given as goal

abbrev pub invariant-loop-ix : goal.invariant-loop-ix
invariant-loop-ix g l =
    let r = rules_text g.P.Platform.holds l.rules in
    let f : ℕ → PackageText → Option (ℕ × ℕ) = λ p x. if has l.selected p then first_from (spec.unmet_target r p x) 0 x.targets else None in
    first_from f 0 (map package_text l.rules.packages.now) ≡ first_from f l.ix (map package_text (drop l.ix l.rules.packages.now))
