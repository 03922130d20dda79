use Rattle.std.proofs.Common.{◌≡◌, ◌++◌, flat_map, map, drop}
use Rattle.cargo_workspaces.specs.Views.{feature_text, package_text}
use Rattle.feats_unused.specs.Shown.{dead_lines_of}
use Rattle.feats_unused.specs.Views.{shown_text}
use Rattle.feats_unused.proofs.dead.push_dead.Given as goal

abbrev pub invariant-loop-feature : goal.invariant-loop-feature
invariant-loop-feature l =
    let f = dead_lines_of (package_text l.«package») in
    map shown_text l.initial.shown.items ++ flat_map f (map feature_text l.«package».features.items) ≡ map shown_text l.shown.items ++ flat_map f (map feature_text (drop l.feature-index l.«package».features.items))
