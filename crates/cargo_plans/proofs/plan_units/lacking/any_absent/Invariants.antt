use Rattle.std.proofs.Common.{◌≡◌, map, drop}
use Rattle.std.specs.List.{list_any}
use Rattle.cargo_workspaces.specs.Views.{declaration_text}
use Rattle.cargo_plans.specs.plan_units.Lacking.{is_absent}
use Rattle.cargo_plans.proofs.plan_units.lacking.any_absent.Given as goal

abbrev pub invariant-loop-declaration : goal.invariant-loop-declaration
invariant-loop-declaration l =
    list_any is_absent (map declaration_text l.declarations) ≡ list_any is_absent (map declaration_text (drop l.declaration-index l.declarations))
