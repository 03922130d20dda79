use Rattle.std.proofs.Common.{◌≡◌, ◌++◌, map, drop}
use Rattle.std.specs.String.{string_bytes}
use Rattle.feats_diff.specs.texts.Views.{difference_text}
use Rattle.feats.specs.comparisons.differences.Shown.{comes_from}
use Rattle.feats_diff.specs.changes.Views.{part_text}
use Rattle.feats.proofs.comparisons.differences.shown.push_comes.Given as goal

abbrev pub invariant-loop-number : goal.invariant-loop-number
invariant-loop-number l =
    map difference_text l.initial.shown.items ++ comes_from (map string_bytes l.whys) 0 (map part_text l.comes)
    ≡ map difference_text l.shown.items ++ comes_from (map string_bytes l.whys) l.number (map part_text (drop l.number l.comes))
