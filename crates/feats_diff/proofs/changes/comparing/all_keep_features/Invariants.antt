use Rattle.std.proofs.Common.{◌≡◌, map, drop}
use Rattle.std.specs.List.{list_all}
use Rattle.feats_diff.specs.changes.Changes.{keeps_features}
use Rattle.feats_diff.specs.changes.Views.{change_text}
use Rattle.feats_diff.proofs.changes.comparing.all_keep_features.Given as goal

abbrev pub invariant-loop-change : goal.invariant-loop-change
invariant-loop-change l = list_all keeps_features (map change_text l.changes) ≡ list_all keeps_features (map change_text (drop l.change-index l.changes))
