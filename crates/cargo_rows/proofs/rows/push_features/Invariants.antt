use Rattle.std.proofs.Common.{◌≡◌, map, drop}
use Rattle.std.specs.String.{string_bytes}
use Rattle.cargo_rows.specs.Rows.{feature_rows}
use Rattle.cargo_workspaces.specs.Views.{feature_text}
use Rattle.cargo_rows.specs.inner.Views.{after}
use Rattle.cargo_rows.proofs.rows.push_features.Given as goal

abbrev pub invariant-loop-feature : goal.invariant-loop-feature
invariant-loop-feature l =
    after (string_bytes l.initial.rows) (feature_rows (map feature_text l.features)) ≡ after (string_bytes l.rows) (feature_rows (map feature_text (drop l.feature-index l.features)))
