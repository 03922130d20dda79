-- The texts of rows that a package graph stores in one list.
use Rattle.std.specs.Prelude.{◌≡◌, ℕ, ◌≤◌, ◌+◌, List, [], ◌∷◌, drop, length, take}
use Rattle.std.specs.List.{flat_map}
use Rattle.guppy_packages.specs.Rows.{Text, RowText, a_package, a_feature, a_dep}

-- A feature's name and its items; a dependency's name and the features that it lists.
abbrev pub row_texts : RowText → List Text
row_texts (a_package id in_workspace) = []
row_texts (a_feature name items) = name ∷ items
row_texts (a_dep name target d) = name ∷ d.features

abbrev pub stored_texts : List RowText → List Text
stored_texts rows = flat_map row_texts rows

-- Among `all`, the texts from number `first` on are `some`.
pub record AreAt (all : List Text) (first : ℕ) (some : List Text) : Type 0 where
  pub within : first + length some ≤ length all
  pub are : take (length some) (drop first all) ≡ some
