-- Parts that a workspace has.
use Rattle.std.specs.Prelude.{List, Bool, true, false, slice_get}
use Rattle.std.specs.List.{list_any}
use Rattle.std.specs.Option.{option_map_or}
use Rattle.std.specs.Str.{bytes_eq}
use Rattle.cargo_workspaces.specs.Workspaces.{PackageText}
use Rattle.plan_names.specs.Names.{NamedText, PartText, dependency, feature, feature_names, optional_names, whole}

abbrev pub has_part : PartText → PackageText → Bool
has_part whole p = true
has_part (feature name) p = list_any (bytes_eq name) (feature_names p)
has_part (dependency name) p = list_any (bytes_eq name) (optional_names p)

-- Whether it is a part of a package of the workspace.
abbrev pub is_part : List PackageText → NamedText → Bool
is_part packages n = option_map_or (has_part n.part) (slice_get packages n.owner) false
