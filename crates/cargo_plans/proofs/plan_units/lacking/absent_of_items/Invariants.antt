use Rattle.std.proofs.Common.{◌≡◌, map, drop}
use Rattle.cargo_workspaces.specs.Views.{declaration_text, texts}
use Rattle.plan_starts.specs.Lists.{first_some}
use Rattle.cargo_plans.specs.plan_units.Lacking.{absent_of}
use Rattle.cargo_plans.proofs.plan_units.lacking.absent_of_items.Given as goal

abbrev pub invariant-loop-item : goal.invariant-loop-item
invariant-loop-item l =
    let f = absent_of (map declaration_text l.declarations) in
    first_some f (texts l.items) ≡ first_some f (texts (drop l.item-index l.items))
