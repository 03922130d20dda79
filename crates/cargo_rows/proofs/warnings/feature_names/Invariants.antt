use Rattle.std.proofs.Common.{◌≡◌, map, drop}
use Rattle.std.specs.List.{list_any}
use Rattle.cargo_rows.specs.Warnings.{names}
use Rattle.workspace_documents.specs.Views.{text_view}
use Rattle.cargo_rows.proofs.warnings.feature_names.Given as goal

abbrev pub invariant-loop-item : goal.invariant-loop-item
invariant-loop-item l =
    list_any (names l.name) (map text_view l.feature.items.items) ≡ list_any (names l.name) (map text_view (drop l.item-index l.feature.items.items))
