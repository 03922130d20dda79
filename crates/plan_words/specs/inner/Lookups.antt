-- What look-ups need.
use Rattle.std.specs.Prelude.{◌≡◌, ℕ, List, Bool, false, map, length, nat_eq, slice_index_or}
use Rattle.std.specs.List.{list_any}
use Rattle.std.specs.List.Sorted.{IsStrictlySortedBy}
use Rattle.cargo_workspaces.specs.Workspaces.{PackageText, text_cmp}

-- The features of a package are in the order of their names.
abbrev pub HasSortedFeatures : PackageText → Type 0
HasSortedFeatures p = IsStrictlySortedBy text_cmp (map (λ f. f.name) p.features)

-- A list of length `count` that is true at the numbers.
pub record Marks (count : ℕ) (list : List Bool) (numbers : List ℕ) : Type 0 where
  pub size : length list ≡ count
  pub at : (k : ℕ) → slice_index_or list k false ≡ list_any (nat_eq k) numbers
