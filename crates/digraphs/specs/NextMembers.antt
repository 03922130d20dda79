-- The members of a set from a number on, and the first member of a word.
use Rattle.std.specs.Prelude.{◌≡◌, ℕ, ◌-◌, ◌≤◌, ◌/◌, Bool, true, List, length, filter}
use Rattle.std.specs.List.{range_with_len}
use Rattle.digraphs.specs.Bits.{has}

-- The members that are at least `n`, ascending.
abbrev pub members_from : List Bool → ℕ → List ℕ
members_from set n = filter (λ k. has set k) (range_with_len n (length set - n))

-- `k` is the least member among the 64 numbers from `64 * place` on.
pub record IsFirstIn (set : List Bool) (place k : ℕ) : Type 0 where
  pub word : k / 64 ≡ place
  pub is : has set k ≡ true
  pub least : (j : ℕ) → j / 64 ≡ place → has set j ≡ true → k ≤ j
