use Rattle.std.proofs.Common.{◌≡◌, map, drop}
use Rattle.cargo_rows.specs.Warnings.{is_turned_on}
use Rattle.cargo_workspaces.specs.Views.{feature_text}
use Rattle.workspace_documents.specs.Views.{text_view}
use Rattle.cargo_rows.proofs.warnings.is_turned_on.Given as goal

abbrev pub invariant-loop-feature : goal.invariant-loop-feature
invariant-loop-feature l =
    is_turned_on (map text_view l.on) l.name (map feature_text l.features) ≡ is_turned_on (map text_view l.on) l.name (map feature_text (drop l.feature-index l.features))
