use Rattle.std.proofs.Common.{◌≡◌, ◌++◌, map, drop}
use Rattle.cargo_workspaces.specs.Views.{feature_text}
use Rattle.cargo_manifests.proofs.copies.copies_of_features.Given as goal

abbrev pub invariant-loop-feature : goal.invariant-loop-feature
invariant-loop-feature l = map feature_text l.features ≡ map feature_text l.copies.items ++ map feature_text (drop l.feature-index l.features)
