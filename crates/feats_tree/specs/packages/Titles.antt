-- The titles of the packages that a plan builds.
use Rattle.std.specs.Prelude.{ℕ, List, [], ◌++◌, map, length, Option, None, Some, nat_lt, codes, slice_get, unwrap_or, if◌then◌else◌}
use Rattle.std.specs.List.{zip}
use Rattle.std.specs.Option.{option_map_or}
use Rattle.cargo_workspaces.specs.Workspaces.{Text, PackageText}
use Rattle.feats_tree.specs.trees.Titles.{AtText, DetailText, TitleText, placed}
use Rattle.feats_lines.specs.Lines.{label_of, name_of}
use Rattle.cargo_plans.specs.plan_units.Units.{UnitText}
use Rattle.cargo_plans.specs.declared.plan_units.unit.Place.{Place}
use Rattle.cargo_plans.specs.declared.plan_units.unit.Place.TheVariants as place

-- A text in parentheses, after a space.
abbrev pub in_parentheses : Text → Text
in_parentheses text = codes " (" ++ (text ++ codes ")")

abbrev pub named_mark : Option Text → Text
named_mark None = []
named_mark (Some name) = in_parentheses name

-- What follows the label of a package: the place, unless it is the only target platform. `names` are those of the target platforms.
abbrev pub place_mark : List Text → Place → Text
place_mark names place.Host = codes " (host)"
place_mark names (place.Target k) = if nat_lt 1 (length names) then named_mark (slice_get names k) else []

-- The title of a unit of this package: its name and version, with the source if several packages share both; then the place.
abbrev pub title_in : List Text → List PackageText → UnitText → PackageText → Text
title_in names packages u p = label_of (map name_of packages) p ++ place_mark names u.place

-- The title of a unit; nothing, if there is no such package.
abbrev pub unit_title : List Text → List PackageText → UnitText → Text
unit_title names packages u = option_map_or (title_in names packages u) (slice_get packages u.number) []

-- What objects show of a package that is there.
abbrev pub detail_of : AtText → PackageText → DetailText
detail_of at p = record { id = p.id; name = p.name; version = p.version; at = at }

-- The same of no package.
abbrev pub no_detail : AtText → DetailText
no_detail at = record { id = []; name = []; version = []; at = at }

-- The same of the package with this number, if there is one.
abbrev pub detail_at : List PackageText → ℕ → AtText → DetailText
detail_at packages p at = option_map_or (detail_of at) (slice_get packages p) (no_detail at)

abbrev pub place_name : List Text → Place → Text
place_name names place.Host = codes "host"
place_name names (place.Target k) = unwrap_or (slice_get names k) []

-- What objects show of a unit.
abbrev pub unit_detail : List Text → List PackageText → UnitText → DetailText
unit_detail names packages u = detail_at packages u.number (placed (place_name names u.place))

abbrev pub titled : Text × DetailText → TitleText
titled pair = record { title = pair.0; detail = pair.1 }

-- Titles with details.
abbrev pub titles_with : List Text → List DetailText → List TitleText
titles_with titles details = map titled (zip titles details)

-- The titles of units, and what objects show of them.
abbrev pub unit_titles : List Text → List PackageText → List UnitText → List TitleText
unit_titles names packages units = titles_with (map (unit_title names packages) units) (map (unit_detail names packages) units)
