-- Whether two plans are equal.
use Rattle.std.specs.Prelude.{Bool, ◌&&◌}
use Rattle.std.specs.List.{list_all}
use Rattle.feats_diff.specs.changes.Changes.{has_none, keeps_features}
use Rattle.feats_diff.specs.changes.Differences.{DifferencesText}

-- No package comes, goes or changes its version, and no feature comes or goes.
abbrev pub are_equal : DifferencesText → Bool
are_equal d = (has_none d.comes && has_none d.gone) && (has_none d.moved && list_all keeps_features d.kept)
