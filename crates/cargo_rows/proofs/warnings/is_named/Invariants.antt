use Rattle.std.proofs.Common.{◌≡◌, map, drop}
use Rattle.cargo_rows.specs.Warnings.{is_named}
use Rattle.cargo_workspaces.specs.Views.{feature_text}
use Rattle.cargo_rows.proofs.warnings.is_named.Given as goal

abbrev pub invariant-loop-feature : goal.invariant-loop-feature
invariant-loop-feature l =
    is_named l.name (map feature_text l.features) ≡ is_named l.name (map feature_text (drop l.feature-index l.features))
