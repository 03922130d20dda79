-- Marked numbers.
use Rattle.std.specs.Prelude.{◌≡◌, ℕ, ◌<◌, List, Bool, false, length, nat_eq, slice_index_or}
use Rattle.std.specs.List.{list_any}

-- A list of length `count` that is true at those of the numbers that are below `count`.
pub record Marks (count : ℕ) (list : List Bool) (numbers : List ℕ) : Type 0 where
  pub size : length list ≡ count
  pub at : (k : ℕ) → k < count → slice_index_or list k false ≡ list_any (nat_eq k) numbers
