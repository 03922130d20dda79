use Rattle.std.proofs.Common.{◌≡◌, ◌++◌, flat_map, map, drop}
use Rattle.feats_slim.specs.answers.Objects.{line_of}
use Rattle.feats_slim.specs.answers.Views.{shown_text}
use Rattle.feats_slim.proofs.answers.objects.objects_of.Given as goal

abbrev pub invariant-loop-one : goal.invariant-loop-one
invariant-loop-one l =
    flat_map line_of (map shown_text l.shown) ≡ l.text.items ++ flat_map line_of (map shown_text (drop l.one-index l.shown))
