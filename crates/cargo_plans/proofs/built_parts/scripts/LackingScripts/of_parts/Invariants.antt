use Rattle.std.proofs.Common.{◌≡◌, ℕ, Some, None, if◌then◌else◌, map, take}
use Rattle.cargo_workspaces.specs.Views.{package_text}
use Rattle.cargo_plans.specs.built_parts.BuiltViews.{is_built_in, slot_at}
use Rattle.cargo_plans.specs.built_parts.Scripts as spec
use Rattle.cargo_plans.proofs.built_parts.scripts.LackingScripts.of_parts.Given as goal

abbrev pub invariant-loop-ix : goal.invariant-loop-ix
invariant-loop-ix g l =
    (q : ℕ) → slot_at l.first.items q ≡ spec.lacking_script (is_built_in l.parts) (g.P.Platform.holds l.host) (map package_text (take l.ix l.package-items)) q
