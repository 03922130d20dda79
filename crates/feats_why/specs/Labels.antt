-- The labels of spots.
use Rattle.std.specs.Prelude.{List, [], ◌++◌, map, Bool, ◌&&◌, codes, slice_get, if◌then◌else◌}
use Rattle.std.specs.Option.{option_map_or}
use Rattle.cargo_workspaces.specs.Workspaces.{Text, PackageText}
use Rattle.feature_labels.specs.Names.{LabelName, base, named, optional}
use Rattle.feats_lines.specs.Lines.{is_repeated, label_of, name_of}
use Rattle.plan_rows.specs.Steps.{is_host}
use Rattle.plan_rows.specs.declared.side.Side.{Side}
use Rattle.plan_whys.specs.Steps.{SpotText}

-- A package's name. If several packages have the name: its name and version; if several have both, its source too.
abbrev pub package_label : List PackageText → PackageText → Text
package_label packages p = if is_repeated (map (λ q. q.name) packages) p.name then label_of (map name_of packages) p else p.name

-- What follows the package: `/FEATURE`, `/dep:NAME` or nothing.
abbrev pub part_label : LabelName → Text
part_label base = []
part_label (named name) = codes "/" ++ name
part_label (optional name) = codes "/dep:" ++ name

abbrev pub side_label : Bool → Side → Text
side_label sides side = if sides && is_host side then codes " (host)" else []

-- The label of a spot of this package.
abbrev pub spot_label_in : List PackageText → Bool → SpotText → PackageText → Text
spot_label_in packages sides s p = package_label packages p ++ (part_label s.label ++ side_label sides s.side)

-- The label of a spot; nothing, if there is no such package.
abbrev pub spot_label : List PackageText → Bool → SpotText → Text
spot_label packages sides s = option_map_or (spot_label_in packages sides s) (slice_get packages s.number) []
