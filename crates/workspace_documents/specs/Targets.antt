-- The targets of a package, and fields that may be missing.
use Rattle.std.specs.Prelude.{List, [], ◌∷◌, codes, Bool, false, Option, option_and_then}
use Rattle.std.specs.Option.{unwrap_or}
use Rattle.json.specs.Json.{Json, Items, no_items, item}
use Rattle.json.specs.Find.{get, as_str, as_bool, as_array}
use Rattle.cargo_json.specs.Faults.{Text}
use Rattle.cargo_json.specs.Fields.{all_texts}
use Rattle.cargo_workspaces.specs.Workspaces.{TargetText}

-- The field of this name, if it is a text.
abbrev pub text_at : Text → Json → Option Text
text_at name d = option_and_then as_str (get name d)

-- Whether the field of this name is true.
abbrev pub flag_at : Text → Json → Bool
flag_at name d = unwrap_or (option_and_then as_bool (get name d)) false

-- The texts of the field of this name; none if it isn't a list of texts.
unfoldable pub texts_at : Text → Json → List Text
texts_at name d = unwrap_or (option_and_then all_texts (option_and_then as_array (get name d))) []

-- The target that an object is.
unfoldable pub target_in : Json → TargetText
target_in d = record {
  name = unwrap_or (text_at (codes "name") d) [];
  kinds = texts_at (codes "kind") d;
  crate_types = texts_at (codes "crate_types") d;
  test = flag_at (codes "test") d;
  doctest = flag_at (codes "doctest") d;
  required_features = texts_at (codes "required-features") d;
}

abbrev pub targets_in : Items → List TargetText
targets_in no_items = []
targets_in (item d ds) = target_in d ∷ targets_in ds
