-- How an order stores its places, and its components by number.
use Rattle.std.specs.Prelude.{◌≡◌, ◌≢◌, ℕ, ◌+◌, ◌-◌, ◌<◌, ◌≤◌, ◌==◌, List, length, map, filter, slice_index, slice_range}
use Rattle.digraphs.specs.PackedRows.{AreBegun}

-- `places` has the place of each node in `list`.
pub record ArePlaces (list places : List ℕ) : Type 0 where
  pub long : length places ≡ length list
  pub each : (i : ℕ) → i < length list → slice_index places (slice_index list i) ≡ i

-- The component of each node in the list.
abbrev pub numbers_of : List ℕ → List ℕ → List ℕ
numbers_of list component = map (λ v. slice_index component v) list

-- The nodes of a component are consecutive in the list: component `c` is `list[begins[c]..begins[c + 1]]`.
pub record AreGrouped (count : ℕ) (list component begins : List ℕ) : Type 0 where
  pub long : length begins ≡ count + 1
  pub rising : (c : ℕ) → c < count → slice_index begins c ≤ slice_index begins (c + 1)
  pub within : (c : ℕ) → c ≤ count → slice_index begins c ≤ length list
  pub run : (c : ℕ) → c < count → slice_range list (slice_index begins c) (slice_index begins (c + 1)) ≡ filter (λ v. slice_index component v == c) list

-- The rank of the node at place `i`.
abbrev pub rank_at : List ℕ → List ℕ → ℕ → ℕ
rank_at list ranks i = slice_index ranks (slice_index list i)

-- Component numbers for the first places of the list: from 0 up, one more wherever the rank changes. `count` is
-- the next number.
pub record AreNumbered (list ranks numbers : List ℕ) (count : ℕ) : Type 0 where
  pub none : length numbers ≡ 0 → count ≡ 0
  pub first : 0 < length numbers → slice_index numbers 0 ≡ 0
  pub last : (i : ℕ) → i + 1 ≡ length numbers → slice_index numbers i + 1 ≡ count
  pub stays : (i : ℕ) → i + 1 < length numbers → rank_at list ranks i ≡ rank_at list ranks (i + 1) → slice_index numbers (i + 1) ≡ slice_index numbers i
  pub steps : (i : ℕ) → i + 1 < length numbers → rank_at list ranks i ≢ rank_at list ranks (i + 1) → slice_index numbers (i + 1) ≡ slice_index numbers i + 1

-- Each node has the number of its place, and `begins` has the first place of each component, and the end.
pub record AreAllNumbered (list ranks components begins : List ℕ) : Type 0 where
  pub numbers : List ℕ
  pub long : length numbers ≡ length list
  pub are : AreNumbered list ranks numbers (length begins - 1)
  pub begun : AreBegun numbers begins
  pub put : (i : ℕ) → i < length list → slice_index components (slice_index list i) ≡ slice_index numbers i
