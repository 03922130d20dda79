use Rattle.std.proofs.Common.{◌≡◌, ◌++◌, map, drop}
use Rattle.cargo_workspaces.specs.Views.{package_text, texts}
use Rattle.feats_duplicates.specs.Views.{placed_text}
use Rattle.feats_duplicate_lines.specs.Shown.{placed_as}
use Rattle.feats_duplicate_lines.specs.Views.{shown_text}
use Rattle.feats_duplicate_lines.proofs.listed.push_each.Given as goal

abbrev pub invariant-loop-one : goal.invariant-loop-one
invariant-loop-one l =
    let f = placed_as (texts l.names) (package_text l.«package») in
    map shown_text l.initial.shown.items ++ map f (map placed_text l.places) ≡ map shown_text l.shown.items ++ map f (map placed_text (drop l.one-index l.places))
