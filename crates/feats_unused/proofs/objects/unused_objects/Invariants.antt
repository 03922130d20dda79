use Rattle.std.proofs.Common.{◌≡◌, ◌++◌, flat_map, map, drop}
use Rattle.feats_unused.specs.Objects.{line_of}
use Rattle.feats_unused.specs.Views.{shown_text}
use Rattle.feats_unused.proofs.objects.unused_objects.Given as goal

abbrev pub invariant-loop-one : goal.invariant-loop-one
invariant-loop-one l =
    flat_map line_of (map shown_text l.shown) ≡ l.text.items ++ flat_map line_of (map shown_text (drop l.one-index l.shown))
