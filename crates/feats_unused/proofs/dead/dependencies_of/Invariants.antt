use Rattle.std.proofs.Common.{◌≡◌, ◌++◌, flat_map, map, drop}
use Rattle.cargo_workspaces.specs.Views.{feature_text, texts}
use Rattle.feats_unused.specs.Dead.{dependencies_in}
use Rattle.feats_unused.proofs.dead.dependencies_of.Given as goal

abbrev pub invariant-loop-feature : goal.invariant-loop-feature
invariant-loop-feature l =
    flat_map dependencies_in (map feature_text l.features) ≡ texts l.names.items ++ flat_map dependencies_in (map feature_text (drop l.feature-index l.features))
