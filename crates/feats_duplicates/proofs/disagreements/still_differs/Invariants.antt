use Rattle.std.proofs.Common.{◌≡◌, map, drop}
use Rattle.std.specs.List.{list_any}
use Rattle.feats_duplicates.specs.Views.{alone_text}
use Rattle.feats_duplicates.specs.Disagreements.{is_same}
use Rattle.feats_duplicates.proofs.disagreements.still_differs.Given as goal

abbrev pub invariant-loop-other : goal.invariant-loop-other
invariant-loop-other l =
    let test = is_same (alone_text l.alone) in
    list_any test (map alone_text l.after) ≡ list_any test (map alone_text (drop l.other-index l.after))
