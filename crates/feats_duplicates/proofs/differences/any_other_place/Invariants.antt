use Rattle.std.proofs.Common.{◌≡◌, List, map, drop, not}
use Rattle.std.specs.List.{list_any}
use Rattle.cargo_workspaces.specs.Views.{texts}
use Rattle.cargo_workspaces.specs.Workspaces.{Text}
use Rattle.feats_duplicates.specs.Built.{same_texts}
use Rattle.feats_duplicates.specs.Views.{placed_text}
use Rattle.feats_duplicates.proofs.differences.any_other_place.Given as goal

abbrev pub invariant-loop-place : goal.invariant-loop-place
invariant-loop-place l =
    let test = λ (f : List Text). not (same_texts (texts l.features) f) in
    list_any test (map (λ p. p.features) (map placed_text l.places)) ≡ list_any test (map (λ p. p.features) (map placed_text (drop l.place-index l.places)))
