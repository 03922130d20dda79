use Rattle.std.proofs.Common.{◌≡◌, map, drop}
use Rattle.cargo_workspaces.specs.Views.{package_text, target_text}
use Rattle.plan_starts.specs.Lists.{first_from}
use Rattle.plan_starts.specs.Starts as spec
use Rattle.plan_starts.specs.TargetViews.{rules_text}
use Rattle.plan_starts.proofs.starts.unmet_target.Given as goal

abbrev pub invariant-loop-number : goal.invariant-loop-number
invariant-loop-number g l =
    let f = spec.unmet_target (rules_text g.P.Platform.holds l.rules) l.ix (package_text l.«package») in
    first_from f 0 (map target_text l.«package».targets.items) ≡ first_from f l.number (map target_text (drop l.number l.«package».targets.items))
