-- Links in the order of their packages and names.
use Rattle.std.specs.Prelude.{◌≡◌, ◌+◌, ◌<◌, ◌++◌, ℕ, [], false, List, Option, Some, get_or, length, slice_get}
use Rattle.std.specs.Cmp.Lexicographic.{slice_cmp}
use Rattle.std.specs.List.Sorted.{IsPermutation, IsSortedByKey, IsStableByKey}
use Rattle.std.specs.Option.{option_map, option_map_or}
use Rattle.std.specs.Ordering.{is_lt, nat_cmp}
use Rattle.guppy_packages.specs.Rows.{Text}
use Rattle.guppy_packages.specs.Tables.{Tables}

-- The name of link `k`; empty if there is no such link.
abbrev pub link_name : Tables → ℕ → Text
link_name t k = option_map_or (λ l. l.name) (slice_get t.links k) []

-- The package that link `k` leaves.
abbrev pub package_left : Tables → ℕ → Option ℕ
package_left t k = option_map (λ l. l.from) (slice_get t.links k)

-- The links don't descend by name.
abbrev pub AreOrdered : Tables → List ℕ → Type 0
AreOrdered t = IsSortedByKey (link_name t) (slice_cmp nat_cmp)

-- The link at place `k` leaves the same package as link `k`. Those of each package below `n` are ordered by name.
pub record AreByName (t : Tables) (n : ℕ) (links : List ℕ) : Type 0 where
  pub count : length links ≡ length t.links
  pub packages : (k : ℕ) (d : ℕ) → k < length links → package_left t (get_or links k d) ≡ package_left t k
  pub names : (k p : ℕ) (d : ℕ) → p < n → package_left t k ≡ Some p → package_left t (k + 1) ≡ Some p
      → is_lt (slice_cmp nat_cmp (link_name t (get_or links (k + 1) d)) (link_name t (get_or links k d))) ≡ false

-- `new` is `old` with the part from `start` up to, not including, `end` sorted by name; links of one name keep their order.
pub record IsPartSorted (t : Tables) (start end : ℕ) (old new : List ℕ) : Type 0 where
  pub front : List ℕ
  pub part : List ℕ
  pub sorted : List ℕ
  pub back : List ℕ
  pub before : old ≡ front ++ (part ++ back)
  pub after : new ≡ front ++ (sorted ++ back)
  pub start_is : length front ≡ start
  pub end_is : start + length part ≡ end
  pub count : length sorted ≡ length part
  pub permutation : IsPermutation part sorted
  pub ordered : AreOrdered t sorted
  pub stable : IsStableByKey (link_name t) (slice_cmp nat_cmp) part sorted
