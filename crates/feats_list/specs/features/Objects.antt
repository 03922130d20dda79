-- The JSON objects of features.
use Rattle.std.specs.Prelude.{ℕ, List, [], ◌∷◌, ◌++◌, Bool, true, false, Option, Some, None, flat_map, codes}
use Rattle.json.specs.Token.{Token, begin_object}
use Rattle.feature_labels.specs.Names.{LabelName}
use Rattle.feature_labels.specs.Names.LabelName.{base, named, optional}
use Rattle.cargo_workspaces.specs.Workspaces.{Text, PackageText}
use Rattle.plan_rows.specs.declared.side.Side.{Side}
use Rattle.feats_list.specs.features.Lists.{ListedText, listed}
use Rattle.feats_lines.specs.parts.Members.{object_line, optional_member, text_member, texts_member}

-- The name, if the label is a feature.
abbrev pub feature_name : LabelName → Option Text
feature_name base = None
feature_name (named name) = Some name
feature_name (optional name) = None

-- The name, if the label is an optional dependency.
abbrev pub dependency_name : LabelName → Option Text
dependency_name base = None
dependency_name (named name) = None
dependency_name (optional name) = Some name

abbrev pub package_members : PackageText → List Token
package_members p = text_member (codes "package") p.id ++ (text_member (codes "name") p.name ++ text_member (codes "version") p.version)

-- The words for the sides on which a label is built.
abbrev pub side_words : Bool → Bool → List Text
side_words true true = codes "target" ∷ codes "host" ∷ []
side_words true false = codes "target" ∷ []
side_words false true = codes "host" ∷ []
side_words false false = []

abbrev pub listed_members : ListedText → List Token
listed_members l =
    optional_member (codes "feature") (feature_name l.label)
    ++ (optional_member (codes "dependency") (dependency_name l.label)
    ++ (texts_member (codes "sides") (side_words l.target l.host)
    ++ texts_member (codes "items") l.items))

abbrev pub line_of : PackageText → ListedText → Text
line_of p l = object_line (begin_object ∷ (package_members p ++ listed_members l))

abbrev pub lines : PackageText → List ListedText → Text
lines p list = flat_map (line_of p) list

-- The lines of package `p`.
abbrev pub feature_objects : (Side → ℕ → LabelName → Bool) → ℕ → PackageText → Text
feature_objects built p x = lines x (listed built p x)
