use Rattle.std.proofs.Common.{◌≡◌, ◌++◌, map, drop}
use Rattle.cargo_workspaces.specs.Views.{texts}
use Rattle.cargo_manifests.specs.EditViews.{without_text}
use Rattle.cargo_manifests.specs.Edits.{feature}
use Rattle.cargo_manifests.proofs.declaration_edits.push_features.Given as goal

abbrev pub invariant-loop-feature : goal.invariant-loop-feature
invariant-loop-feature l =
    map without_text l.initial.parts.items ++ map feature (texts l.features) ≡ map without_text l.parts.items ++ map feature (texts (drop l.feature-index l.features))
