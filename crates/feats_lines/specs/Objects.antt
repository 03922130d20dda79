-- The JSON objects that show a plan.
use Rattle.std.specs.Prelude.{List, [], ◌∷◌, ◌++◌, map, flat_map, codes}
use Rattle.json.specs.Token.{Token, begin_object, end_object, begin_array, end_array, key, string}
use Rattle.json.specs.Print.{print}
use Rattle.cargo_workspaces.specs.Workspaces.{Text}
use Rattle.feats_lines.specs.Lines.{ShownText}

-- A member whose value is a string.
abbrev pub member : Text → Text → List Token
member name value = key name ∷ string value ∷ []

abbrev pub head_tokens : ShownText → List Token
head_tokens u = member (codes "place") u.place ++ (member (codes "package") u.described.id ++ (member (codes "name") u.described.name ++ member (codes "version") u.described.version))

abbrev pub feature_tokens : List Text → List Token
feature_tokens features = key (codes "features") ∷ begin_array ∷ (map string features ++ end_array ∷ [])

-- The object of a package that is built.
abbrev pub object_of : ShownText → List Token
object_of u = begin_object ∷ (head_tokens u ++ (feature_tokens u.features ++ end_object ∷ []))

abbrev pub object_line : ShownText → Text
object_line u = print (object_of u) ++ 10 ∷ []

abbrev pub plan_objects : List ShownText → Text
plan_objects units = flat_map object_line units
