use Rattle.std.proofs.Common.{◌≡◌, ◌++◌, flat_map, map, drop}
use Rattle.cargo_workspaces.specs.Views.{feature_text, package_text, texts}
use Rattle.feats_unused.specs.Shown.{dead_line}
use Rattle.feats_unused.specs.Views.{shown_text}
use Rattle.feats_unused.proofs.dead.push_feature.Given as goal

abbrev pub invariant-loop-item : goal.invariant-loop-item
invariant-loop-item l =
    let f = dead_line (package_text l.«package») (feature_text l.feature) in
    map shown_text l.initial.shown.items ++ flat_map f (texts l.feature.items.items) ≡ map shown_text l.shown.items ++ flat_map f (texts (drop l.item-index l.feature.items.items))
