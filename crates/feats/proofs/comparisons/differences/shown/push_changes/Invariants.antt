use Rattle.std.proofs.Common.{◌≡◌, ◌++◌, map, drop}
use Rattle.std.specs.String.{string_bytes}
use Rattle.feats_diff.specs.texts.Views.{difference_text}
use Rattle.feats.specs.comparisons.differences.Shown.{changes_shown}
use Rattle.feats_diff.specs.changes.Views.{change_text}
use Rattle.feats.proofs.comparisons.differences.shown.push_changes.Given as goal

abbrev pub invariant-loop-change : goal.invariant-loop-change
invariant-loop-change l =
    map difference_text l.initial.shown.items ++ changes_shown l.all (map string_bytes l.whys) (map change_text l.changes)
    ≡ map difference_text l.shown.items ++ changes_shown l.all (map string_bytes l.left) (map change_text (drop l.change-index l.changes))
