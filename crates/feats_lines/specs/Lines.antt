-- The lines that show a plan.
use Rattle.std.specs.Prelude.{ℕ, ◌-◌, List, [], ◌∷◌, ◌++◌, map, filter, flat_map, length, replicate, max, nat_lt, Bool, unwrap_or, codes, if◌then◌else◌}
use Rattle.std.specs.Str.{bytes_eq}
use Rattle.cargo_workspaces.specs.Workspaces.{Text, PackageText}
use Rattle.shown_texts.specs.Shown.{escaped}

-- A package that is built: the name of its place, and the features with which it is built.
pub record ShownText : Type 0 where
  pub place : Text
  pub described : PackageText
  pub features : List Text

-- The texts of a line's columns.
pub record RowText : Type 0 where
  pub place : Text
  pub label : Text
  pub features : List Text

-- A package's name and version.
abbrev pub name_of : PackageText → Text
name_of p = p.name ++ 32 ∷ p.version

-- Whether more than one of the names is this one.
abbrev pub is_repeated : List Text → Text → Bool
is_repeated names name = nat_lt 1 (length (filter (bytes_eq name) names))

-- The source of a package; its id, if it is at a path.
abbrev pub source_text : PackageText → Text
source_text p = unwrap_or p.source p.id

-- The name, and the source if several packages have the name.
abbrev pub label_of : List Text → PackageText → Text
label_of names p = if is_repeated names (name_of p) then name_of p ++ (codes " (" ++ (source_text p ++ codes ")")) else name_of p

abbrev pub row_of : List Text → ShownText → RowText
row_of names u = record { place = u.place; label = label_of names u.described; features = u.features }

-- The length of the longest text.
abbrev pub widest : List Text → ℕ
widest [] = 0
widest (t ∷ ts) = max (length t) (widest ts)

abbrev pub place_width : List RowText → ℕ
place_width rows = widest (map (λ r. r.place) rows)

abbrev pub label_width : List RowText → ℕ
label_width rows = widest (map (λ r. r.label) rows)

-- A text in a column of this width, and the space after it.
abbrev pub cell : ℕ → Text → Text
cell width text = text ++ (replicate (width - length text) 32 ++ 32 ∷ [])

abbrev pub spaced : Text → Text
spaced text = 32 ∷ text

-- The label and the features; without features the label ends the line.
abbrev pub columns : ℕ → Text → List Text → Text
columns width label [] = label
columns width label (f ∷ fs) = cell width label ++ flat_map spaced (f ∷ fs)

abbrev pub label_columns : ℕ → RowText → Text
label_columns width r = columns width r.label r.features

-- The columns of a row, two spaces apart.
abbrev pub columns_of : ℕ → ℕ → RowText → Text
columns_of places labels r = cell places r.place ++ (32 ∷ label_columns labels r)

-- The line of a row: control characters in it are escaped.
abbrev pub line_of : ℕ → ℕ → RowText → Text
line_of places labels r = escaped (columns_of places labels r) ++ 10 ∷ []

abbrev pub table_of : List RowText → Text
table_of rows = flat_map (line_of (place_width rows) (label_width rows)) rows

-- The lines of a plan, over the packages of the workspace.
abbrev pub plan_lines : List PackageText → List ShownText → Text
plan_lines packages units = table_of (map (row_of (map name_of packages)) units)
