use Rattle.std.proofs.Common.{◌≡◌, drop}
use Rattle.std.specs.List.{list_all}
use Rattle.cargo_workspaces.specs.Views.{package_text, texts}
use Rattle.plan_starts.specs.Targets.{is_met}
use Rattle.plan_starts.specs.TargetViews.{rules_text}
use Rattle.plan_starts.proofs.targets.are_met.Given as goal

abbrev pub invariant-loop-need : goal.invariant-loop-need
invariant-loop-need g l =
    let test = is_met (rules_text g.P.Platform.holds l.rules) l.ix (package_text l.«package») in
    list_all test (texts l.needs) ≡ list_all test (texts (drop l.need-index l.needs))
