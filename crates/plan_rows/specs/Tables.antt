-- Tables of features and dependencies, and their rows. An entry is what a table has of one package in one place; it is named by its
-- number.
use Rattle.std.specs.Prelude.{ℕ, ◌+◌, List, [], ◌∷◌, ◌++◌, Bool, false, None, map, slice_get}
use Rattle.std.specs.Option.{unwrap_or}
use Rattle.std.specs.Fmt.{decimal}
use Rattle.guppy_packages.specs.Rows.{RowText, a_package, a_feature, a_dep}
use Rattle.guppy_packages.specs.declared.row.DependencyKind.TheVariants.{Normal}
use Rattle.cargo_workspaces.specs.Workspaces.{Text, FeatureText}

-- A dependency on the entry with number `to`.
pub record Dependency : Type 0 where
  pub name : Text
  pub to : ℕ
  pub optional : Bool
  pub default_features : Bool
  pub features : List Text

pub record Entry : Type 0 where
  pub features : List FeatureText
  pub dependencies : List Dependency

-- The flag at a place; false past the end.
abbrev pub flag_at : List Bool → ℕ → Bool
flag_at flags k = unwrap_or (slice_get flags k) false

-- `f` of each item and its number; the first has number `k`.
abbrev pub each_from : {X Y : Type 0} → (ℕ → X → Y) → ℕ → List X → List Y
each_from f k [] = []
each_from f k (x ∷ xs) = f k x ∷ each_from f (k + 1) xs

abbrev pub feature_row : FeatureText → RowText
feature_row f = a_feature f.name f.items

abbrev pub dependency_row : Dependency → RowText
dependency_row d = a_dep d.name (decimal d.to) (record { kind = Normal; optional = d.optional; platform = None; default_features = d.default_features; features = d.features })

-- The rows of the entry with number `k`: its id is the number's decimal text.
abbrev pub entry_rows : ℕ → Entry → List RowText
entry_rows k e = a_package (decimal k) false ∷ (map feature_row e.features ++ map dependency_row e.dependencies)

-- The rows of entries, the first of which has number `k`.
abbrev pub rows_from : ℕ → List Entry → List RowText
rows_from k [] = []
rows_from k (e ∷ es) = entry_rows k e ++ rows_from (k + 1) es

-- The rows of a table.
abbrev pub rows_of : List Entry → List RowText
rows_of es = rows_from 0 es
