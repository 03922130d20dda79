use Rattle.std.proofs.Common.{◌≡◌, ◌++◌, flat_map, map, drop}
use Rattle.cargo_workspaces.specs.Views.{package_text, texts}
use Rattle.feats_duplicates.specs.Views.{places_text}
use Rattle.feats_duplicate_lines.specs.Shown.{places_of}
use Rattle.feats_duplicate_lines.specs.Views.{shown_text}
use Rattle.feats_duplicate_lines.proofs.listed.push_places.Given as goal

abbrev pub invariant-loop-one : goal.invariant-loop-one
invariant-loop-one l =
    let f = places_of (texts l.names) (map package_text l.packages) in
    map shown_text l.initial.shown.items ++ flat_map f (map places_text l.places) ≡ map shown_text l.shown.items ++ flat_map f (map places_text (drop l.one-index l.places))
