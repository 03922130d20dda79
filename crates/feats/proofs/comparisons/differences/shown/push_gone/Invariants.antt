use Rattle.std.proofs.Common.{◌≡◌, ◌++◌, map, drop}
use Rattle.feats_diff.specs.texts.Shown.{gone}
use Rattle.feats_diff.specs.texts.Views.{difference_text}
use Rattle.feats.specs.comparisons.differences.Shown.{shown_of}
use Rattle.feats_diff.specs.changes.Views.{part_text}
use Rattle.feats.proofs.comparisons.differences.shown.push_gone.Given as goal

abbrev pub invariant-loop-part : goal.invariant-loop-part
invariant-loop-part l =
    map difference_text l.initial.shown.items ++ map (λ p. gone (shown_of p)) (map part_text l.gone)
    ≡ map difference_text l.shown.items ++ map (λ p. gone (shown_of p)) (map part_text (drop l.part-index l.gone))
