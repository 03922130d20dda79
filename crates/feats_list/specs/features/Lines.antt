-- The lines of features.
use Rattle.std.specs.Prelude.{ℕ, List, [], ◌∷◌, ◌++◌, Bool, true, false, ◌||◌, map, flat_map, codes, if◌then◌else◌}
use Rattle.feature_labels.specs.Names.{LabelName, label_text}
use Rattle.cargo_workspaces.specs.Workspaces.{Text, PackageText}
use Rattle.plan_rows.specs.declared.side.Side.{Side}
use Rattle.feats_list.specs.features.Lists.{ListedText, has_two_sides, listed}
use Rattle.feats_lines.specs.parts.Tables.{RowText, table_of}

-- The word for the sides on which a label is built. If its package is built on both sides, the word says on which the label is.
abbrev pub on_word : Bool → Bool → Bool → Text
on_word true true true = codes "on"
on_word true true false = codes "on for target"
on_word true false true = codes "on for host"
on_word true false false = codes "off"
on_word false target host = if target || host then codes "on" else codes "off"

abbrev pub after_space : Text → Text
after_space item = 32 ∷ item

-- The texts, with a space between two of them.
abbrev pub spaced : List Text → Text
spaced [] = []
spaced (first ∷ more) = first ++ flat_map after_space more

abbrev pub row_of : Bool → ListedText → RowText
row_of two l = record { first = label_text l.label; second = on_word two l.target l.host; third = spaced l.items }

abbrev pub table : Bool → List ListedText → Text
table two list = table_of (map (row_of two) list)

-- The lines of package `p`.
abbrev pub feature_lines : (Side → ℕ → LabelName → Bool) → ℕ → PackageText → Text
feature_lines built p x = table (has_two_sides built p) (listed built p x)
