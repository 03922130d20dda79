use Rattle.std.proofs.Common.{◌≡◌, ◌++◌, map, drop, flat_map}
use Rattle.std.specs.String.{string_bytes}
use Rattle.guppy_packages.specs.Items.{item_of}
use Rattle.cargo_workspaces.specs.Views.{texts}
use Rattle.plan_rows.specs.Steps.{gate_of}
use Rattle.plan_rows.proofs.gates.gates_of_feature.Given as goal

abbrev pub invariant-loop-item : goal.invariant-loop-item
invariant-loop-item l =
    let gates = flat_map (λ item. gate_of (item_of item)) in
    gates (texts l.feature.items.items) ≡ map string_bytes l.gates.items ++ gates (texts (drop l.item-index l.feature.items.items))
