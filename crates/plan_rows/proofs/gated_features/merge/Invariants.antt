use Rattle.std.proofs.Common.{◌≡◌, ◌++◌, ◌≤◌, map, drop}
use Rattle.std.specs.String.{string_bytes}
use Rattle.cargo_workspaces.specs.Views.{texts}
use Rattle.plan_rows.specs.inner.Merged.{merged}
use Rattle.plan_rows.proofs.gated_features.merge.Given as goal

abbrev pub invariant-loop-item : goal.invariant-loop-item
invariant-loop-item l =
    (merged (texts l.items) (map string_bytes l.gates) ≡ texts l.all.items ++ merged (texts (drop l.item-index l.items)) (drop l.next (map string_bytes l.gates)))
    × (l.next ≤ l.item-index)
