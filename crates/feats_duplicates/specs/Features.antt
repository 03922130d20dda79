-- The features of a package in several plans together.
use Rattle.std.specs.Prelude.{List, Bool, false, map, flat_map, codes}
use Rattle.std.specs.List.{filter, list_any}
use Rattle.std.specs.Option.{option_map_or}
use Rattle.std.specs.Str.{bytes_eq}
use Rattle.cargo_workspaces.specs.Workspaces.{Text, PackageText}
use Rattle.feats_duplicates.specs.Alone.{MemberUnitText}

abbrev pub is_default_registry : Text → Bool
is_default_registry source = bytes_eq source (codes "registry+https://github.com/rust-lang/crates.io-index")

-- Whether the package is of the registry that manifests name by default.
abbrev pub is_from_default_registry : PackageText → Bool
is_from_default_registry x = option_map_or is_default_registry x.source false

-- The names of the package's features that are among these.
abbrev pub names_among : PackageText → List Text → List Text
names_among x some = map (λ f. f.name) (filter (λ f. list_any (bytes_eq f.name) some) x.features)

-- The features of package `x` in all these plans together.
abbrev pub joined_features : PackageText → List MemberUnitText → List Text
joined_features x rows = names_among x (flat_map (λ r. r.unit.features) rows)
