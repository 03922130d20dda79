-- The titles of spots.
use Rattle.std.specs.Prelude.{List, map, Bool}
use Rattle.cargo_workspaces.specs.Workspaces.{Text, PackageText}
use Rattle.feats_tree.specs.trees.Titles.{DetailText, TitleText, part}
use Rattle.feats_tree.specs.packages.Titles.{detail_at, titles_with}
use Rattle.plan_whys.specs.Steps.{SpotText}
use Rattle.feats_why.specs.Labels.{spot_label}
use Rattle.feats_why.specs.Objects.{dependency_name, feature_name, side_word}

abbrev pub labels_of : List PackageText → Bool → List SpotText → List Text
labels_of packages sides spots = map (spot_label packages sides) spots

-- What objects show of a spot.
abbrev pub spot_detail : List PackageText → SpotText → DetailText
spot_detail packages s = detail_at packages s.number (part (feature_name s.label) (dependency_name s.label) (side_word s.side))

-- The labels of spots, and what objects show of them.
abbrev pub spot_titles : List PackageText → Bool → List SpotText → List TitleText
spot_titles packages sides spots = titles_with (labels_of packages sides spots) (map (spot_detail packages) spots)
