-- Where packages are: what a document says of their manifests.
use Rattle.std.specs.Prelude.{List, [], Option, Some, codes, option_and_then, unwrap_or}
use Rattle.std.specs.BTreeMap.{insert_entry}
use Rattle.std.specs.Map.{lookup}
use Rattle.std.specs.Str.{bytes_eq}
use Rattle.json.specs.Find.{as_array, as_str, get}
use Rattle.json.specs.Json.{Items, Json, item, no_items}
use Rattle.build_summaries.specs.Paths.{path_from}
use Rattle.cargo_workspaces.specs.Workspaces.{Text, text_cmp}

-- The folder of the workspace, and the path of each package's manifest by the package's id.
pub record PlacesText : Type 0 where
  pub root : Option Text
  pub manifests : List (Text × Text)

abbrev pub text_at : Text → Json → Option Text
text_at name d = option_and_then as_str (get name d)

abbrev pub entry_if : List (Text × Text) → Option Text → Option Text → List (Text × Text)
entry_if manifests (Some id) (Some path) = insert_entry text_cmp manifests id path
entry_if manifests _ _ = manifests

abbrev pub with_package : List (Text × Text) → Json → List (Text × Text)
with_package manifests d = entry_if manifests (text_at (codes "id") d) (text_at (codes "manifest_path") d)

abbrev pub with_packages : List (Text × Text) → Items → List (Text × Text)
with_packages manifests no_items = manifests
with_packages manifests (item d ds) = with_packages (with_package manifests d) ds

-- The packages in a document.
abbrev pub packages_in : Json → Items
packages_in d = unwrap_or (option_and_then as_array (get (codes "packages") d)) no_items

abbrev pub places_in : Json → PlacesText
places_in d = record { root = text_at (codes "workspace_root") d; manifests = with_packages [] (packages_in d) }

abbrev pub path_by : Option Text → Option Text → Text → Text
path_by (Some root) (Some manifest) id = path_from root manifest
path_by _ _ id = id

abbrev pub manifest_at : List (Text × Text) → Text → Option Text
manifest_at manifests id = lookup (bytes_eq id) manifests

-- The path of the package with an id, from the folder of the workspace. The id itself, if the document doesn't say where it is.
abbrev pub path_of : PlacesText → Text → Text
path_of places id = path_by places.root (manifest_at places.manifests id) id
