use Rattle.std.proofs.Common.{◌≡◌, ◌++◌, flat_map, map, drop}
use Rattle.feats_diff.specs.texts.Objects.{line_of}
use Rattle.feats_diff.specs.texts.Views.{difference_text}
use Rattle.feats_diff.proofs.texts.objects.difference_objects.Given as goal

abbrev pub invariant-loop-difference : goal.invariant-loop-difference
invariant-loop-difference l =
    flat_map line_of (map difference_text l.shown) ≡ l.text.items ++ flat_map line_of (map difference_text (drop l.difference-index l.shown))
