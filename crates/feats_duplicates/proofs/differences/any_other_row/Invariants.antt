use Rattle.std.proofs.Common.{◌≡◌, List, map, drop, not}
use Rattle.std.specs.List.{list_any}
use Rattle.cargo_workspaces.specs.Views.{texts}
use Rattle.cargo_workspaces.specs.Workspaces.{Text}
use Rattle.feats_duplicates.specs.Built.{same_texts}
use Rattle.feats_duplicates.specs.Views.{member_unit_text}
use Rattle.feats_duplicates.proofs.differences.any_other_row.Given as goal

abbrev pub invariant-loop-row : goal.invariant-loop-row
invariant-loop-row l =
    let test = λ (f : List Text). not (same_texts (texts l.features) f) in
    list_any test (map (λ r. r.unit.features) (map member_unit_text l.rows)) ≡ list_any test (map (λ r. r.unit.features) (map member_unit_text (drop l.row-index l.rows)))
