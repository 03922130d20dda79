-- The lines in columns.
use Rattle.std.specs.Prelude.{Bool, true, false, List, [], ◌∷◌, ◌++◌, map, flat_map, codes}
use Rattle.cargo_workspaces.specs.Workspaces.{Text, PackageText}
use Rattle.feats_lines.specs.parts.Tables.{RowText, table_of}
use Rattle.feats_lines.specs.Lines.{label_of, name_of, spaced}
use Rattle.feats_duplicate_lines.specs.Shown.{ShownText, version, in_place, alone, joined, refused, kind_of, package_of}

abbrev pub quoted : Text → Text
quoted feature = 34 ∷ (feature ++ 34 ∷ [])

abbrev pub after_comma : Text → Text
after_comma feature = codes ", " ++ quoted feature

-- Texts in quotes, with commas between them.
abbrev pub quoted_list : List Text → Text
quoted_list [] = []
quoted_list (first ∷ more) = quoted first ++ flat_map after_comma more

-- The line of a manifest that asks for exactly this version, with these features.
abbrev pub manifest_line : PackageText → List Text → Text
manifest_line p features =
    p.name ++ (codes " = { version = \"=" ++ (p.version ++ (codes "\", default-features = false, features = [" ++ (quoted_list features ++ codes "] }"))))

-- A comment for a manifest: whether members agree with the line.
abbrev pub agreement : Bool → Text
agreement true = codes " # agree"
agreement false = codes " # still differ"

abbrev pub joined_detail : PackageText → List Text → Bool → Text
joined_detail p features agrees = manifest_line p features ++ agreement agrees

-- Features after what has them.
abbrev pub feature_list : List Text → Text
feature_list [] = codes " without features"
feature_list (f ∷ fs) = 58 ∷ flat_map spaced (f ∷ fs)

abbrev pub place_detail : Text → List Text → Text
place_detail place features = place ++ feature_list features

abbrev pub member_detail : Text → Text → List Text → Text
member_detail place label features = place ++ (codes " with " ++ (label ++ (codes " alone" ++ feature_list features)))

-- The label of a package, after a comma.
abbrev pub label_more : List Text → PackageText → Text
label_more names p = codes ", " ++ label_of names p

-- By which packages a package is asked for. One for which no package asks is selected.
abbrev pub asked_by : List Text → List PackageText → Text
asked_by names [] = codes "selected"
asked_by names (first ∷ more) = codes "asked by " ++ (label_of names first ++ flat_map (label_more names) more)

-- What a line says of its package.
abbrev pub detail_of : List Text → ShownText → Text
detail_of names (version p dependents) = asked_by names dependents
detail_of names (in_place p place features) = place_detail place features
detail_of names (alone p place member features) = member_detail place (label_of names member) features
detail_of names (joined p place features agrees) = joined_detail p features agrees
detail_of names (refused p message) = message

abbrev pub row_of : List Text → ShownText → RowText
row_of names s = record { first = kind_of s; second = label_of names (package_of s); third = detail_of names s }

-- The lines, over the packages of the workspace.
abbrev pub duplicate_lines : List PackageText → List ShownText → Text
duplicate_lines packages shown = table_of (map (row_of (map name_of packages)) shown)
