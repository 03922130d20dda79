use Rattle.std.proofs.Common.{◌≡◌, ◌++◌, map, drop}
use Rattle.feats_diff.specs.changes.Changes.{change_of}
use Rattle.feats_diff.specs.changes.Views.{change_text, pair_text}
use Rattle.feats_diff.proofs.changes.feature_changes.changes_of.Given as goal

abbrev pub invariant-loop-pair : goal.invariant-loop-pair
invariant-loop-pair l =
    map change_of (map pair_text l.pairs) ≡ map change_text l.changes.items ++ map change_of (map pair_text (drop l.pair-index l.pairs))
