-- A set of numbers as words of 64 bits.
use Rattle.std.specs.Prelude.{◌≡◌, ℕ, ◌+◌, ◌<◌, ◌≤◌, ◌/◌, ◌%◌, ◌^◌, ◌==◌, Bool, List, length, map, slice_index}
use Rattle.std.specs.List.{range_with_len}
use Rattle.std.specs.Int.{bit_at}

-- Bit `k` of the words: 64 to a word, the lowest first.
abbrev pub word_bit : List ℕ → ℕ → ℕ
word_bit words k = bit_at (slice_index words (k / 64)) (k % 64)

-- The first `n` bits of the words.
abbrev pub bits_of : ℕ → List ℕ → List Bool
bits_of n words = map (λ k. word_bit words k == 1) (range_with_len 0 n)

-- There is room for `n` bits, and no bit from `n` on is set.
pub record AreWords (n : ℕ) (words : List ℕ) : Type 0 where
  pub long : length words ≡ n / 64 + 1
  pub fits : n < 2 ^ 64
  pub clear : (k : ℕ) → n ≤ k → word_bit words k ≡ 0

-- Each word fits in 64 bits.
abbrev pub Fit : List ℕ → Type 0
Fit words = (i : ℕ) → slice_index words i < 2 ^ 64
