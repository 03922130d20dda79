use Rattle.std.proofs.Common.{◌≡◌, ◌++◌, flat_map, map, drop}
use Rattle.cargo_workspaces.specs.Views.{package_text, texts}
use Rattle.feats_unused.specs.Shown.{unused_line}
use Rattle.feats_unused.specs.Views.{shown_text}
use Rattle.feats_unused.proofs.shown_lines.push_each_unused.Given as goal

abbrev pub invariant-loop-feature : goal.invariant-loop-feature
invariant-loop-feature l =
    let f = unused_line (package_text l.«package») in
    map shown_text l.initial.shown.items ++ flat_map f (texts l.features) ≡ map shown_text l.shown.items ++ flat_map f (texts (drop l.feature-index l.features))
