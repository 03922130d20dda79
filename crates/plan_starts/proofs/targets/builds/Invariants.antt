use Rattle.std.proofs.Common.{◌≡◌, ◌&&◌, map, drop}
use Rattle.std.specs.List.{list_any}
use Rattle.cargo_workspaces.specs.Views.{package_text, target_text}
use Rattle.cargo_workspaces.specs.Workspaces.{TargetText}
use Rattle.plan_starts.specs.Targets.{is_built, is_start}
use Rattle.plan_starts.specs.TargetViews.{rules_text}
use Rattle.plan_starts.proofs.targets.builds.Given as goal

abbrev pub invariant-loop-target : goal.invariant-loop-target
invariant-loop-target g l =
    let r = rules_text g.P.Platform.holds l.rules in
    let x = package_text l.«package» in
    let test = λ (t : TargetText). is_start r.settings.choice l.dev l.macros t && is_built r l.ix x t in
    list_any test (map target_text l.«package».targets.items) ≡ list_any test (map target_text (drop l.target-index l.«package».targets.items))
