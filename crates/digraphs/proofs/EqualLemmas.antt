-- Sets with the same members.
use Rattle.std.proofs.Common.{◌≡◌, ℕ, zero, suc, ◌+◌, ◌*◌, ◌/◌, ◌%◌, ◌<◌, ◌≤◌, inl, inr, Bool, true, false, ◌==◌, List, ◌∷◌, length, get_or, refl, ap, sym, ◌∙◌, arith}
use Rattle.std.specs.Prelude.{filter, nat_eq, IsTrue, ◌↔◌}
use Rattle.std.specs.List.{range_with_len}
use Rattle.std.specs.Int.{bit_at}
use Rattle.std.specs.Cmp.Lexicographic.{pointwise, bytes_decides}
use mathlib.Core.Bool.{true≢false}
use Rattle.std.proofs.lemmas.Bool.{cases_lt, cases_Bool}
use Rattle.std.proofs.lemmas.Nat.Bits.{same_from_bits_below, bit_at-lt}
use Rattle.digraphs.specs.Bits.{has, members}
use Rattle.digraphs.specs.inner.Words.{word_bit, bits_of, AreWords, Fit}
use Rattle.digraphs.specs.Laws.{SetsAreTheirMembers}
use Rattle.digraphs.proofs.BitLemmas.{length-bits_of, has-bits_of, has_past, same_sets, word_bit_at, bit_cases}
use Rattle.digraphs.proofs.SetLemmas.{Contains-members, has-Contains}

pub same_tests : (a b : Bool) → (a ≡ true → b ≡ true) → (b ≡ true → a ≡ true) → a ≡ b
same_tests true true f g = refl
same_tests true false f g = sym (f refl)
same_tests false true f g = g refl
same_tests false false f g = refl

-- ---- members

-- The members among `n` numbers from `a` on.
abbrev part : List Bool → ℕ → ℕ → List ℕ
part s a n = filter (λ k. has s k) (range_with_len a n)

same_part : (s t : List Bool) → ((k : ℕ) → has s k ≡ has t k) → (a n m : ℕ) → length s ≤ a + n → length t ≤ a + m → part s a n ≡ part t a m
same_part s t e a zero zero hs ht = refl
same_part s t e a zero (suc m) hs ht =
    let none : has t a ≡ false = sym (e a) ∙ has_past s a (omega arith) in
    rw none (same_part s t e (a + 1) zero m (omega arith) (omega arith))
same_part s t e a (suc n) zero hs ht =
    let none : has s a ≡ false = e a ∙ has_past t a (omega arith) in
    rw none (same_part s t e (a + 1) n zero (omega arith) (omega arith))
same_part s t e a (suc n) (suc m) hs ht =
    let rest = same_part s t e (a + 1) n m (omega arith) (omega arith) in
    elim (cases_Bool (has t a)) [
      | inl holds ↦ let also : has s a ≡ true = e a ∙ holds in rw (also, holds) (ap (λ (l : List ℕ). a ∷ l) rest)
      | inr none ↦ let also : has s a ≡ false = e a ∙ none in rw (also, none) rest
    ]

pub sets_are_their_members : SetsAreTheirMembers
sets_are_their_members a b = (
  λ (e : members a ≡ members b). λ k.
      same_tests (has a k) (has b k)
      (λ h. has-Contains b k (rw e at (Contains-members a k h)))
      (λ h. has-Contains a k (rw (sym e) at (Contains-members b k h))),
  λ each. same_part a b each 0 (length a) (length b) (omega arith) (omega arith),
)

-- ---- words

same_bit : (x y : ℕ) → x < 2 → y < 2 → (x == 1) ≡ (y == 1) → x ≡ y
same_bit x y hx hy t =
    elim (bit_cases x hx) [
      | inl zx ↦
          elim (bit_cases y hy) [
            | inl zy ↦ zx ∙ sym zy
            | inr oy ↦ absurd (true≢false (sym (rw (zx, oy) at t)))
          ]
      | inr ox ↦
          elim (bit_cases y hy) [
            | inl zy ↦ absurd (true≢false (rw (ox, zy) at t))
            | inr oy ↦ ox ∙ sym oy
          ]
    ]

-- A number is in a set exactly if its bit is set.
has_word : (n : ℕ) (a : List ℕ) → AreWords n a → (k : ℕ) → has (bits_of n a) k ≡ (word_bit a k == 1)
has_word n a w k =
    elim (cases_lt k n) [
      | inl h ↦ has-bits_of n a k h
      | inr p ↦ rw (w.clear k p) (has_past (bits_of n a) k (omega (arith, length-bits_of n a)))
    ]

words_have : (n m : ℕ) (a b : List ℕ) → AreWords n a → AreWords m b → ((i : ℕ) → get_or a i 0 ≡ get_or b i 0) → (k : ℕ) → has (bits_of n a) k ≡ has (bits_of m b) k
words_have n m a b wa wb e k = has_word n a wa k ∙ ap (λ (w : ℕ). bit_at w (k % 64) == 1) (e (k / 64)) ∙ sym (has_word m b wb k)

have_words : (n m : ℕ) (a b : List ℕ) → AreWords n a → AreWords m b → Fit a → Fit b → ((k : ℕ) → has (bits_of n a) k ≡ has (bits_of m b) k) → (i : ℕ) → get_or a i 0 ≡ get_or b i 0
have_words n m a b wa wb fa fb e i =
    let bit : (k : ℕ) → word_bit a k ≡ word_bit b k =
    λ k. same_bit (word_bit a k) (word_bit b k) (bit_at-lt _ _) (bit_at-lt _ _) (sym (has_word n a wa k) ∙ e k ∙ has_word m b wb k)
    in
    same_from_bits_below 64 (get_or a i 0) (get_or b i 0) (fa i) (fb i)
    (λ j l. sym (word_bit_at a i j l) ∙ bit (i * 64 + j) ∙ word_bit_at b i j l)

-- Two sets have the same members exactly if their words agree.
pub equal_members : (n m : ℕ) (a b : List ℕ) → AreWords n a → AreWords m b → Fit a → Fit b → (r : Bool) → (r ≡ true → (i : ℕ) → get_or a i 0 ≡ get_or b i 0) → (((i : ℕ) → get_or a i 0 ≡ get_or b i 0) → r ≡ true)
    → r ≡ pointwise nat_eq (members (bits_of n a)) (members (bits_of m b))
equal_members n m a b wa wb fa fb r same apart =
    let law = sets_are_their_members (bits_of n a) (bits_of m b) in
    let d = bytes_decides (members (bits_of n a)) (members (bits_of m b)) in
    same_tests r (pointwise nat_eq (members (bits_of n a)) (members (bits_of m b)))
    (λ h. d.1 (law.1 (words_have n m a b wa wb (same h))))
    (λ h. apart (have_words n m a b wa wb fa fb (law.0 (d.0 h))))

pub identical_words : (n : ℕ) (a b : List ℕ) → AreWords n a → AreWords n b → Fit a → Fit b → (r : Bool) → (r ≡ true → (i : ℕ) → get_or a i 0 ≡ get_or b i 0) → (((i : ℕ) → get_or a i 0 ≡ get_or b i 0) → r ≡ true)
    → IsTrue r ↔ (bits_of n a ≡ bits_of n b)
identical_words n a b wa wb fa fb r same apart = (
  λ h. same_sets (bits_of n a) (bits_of n b) (length-bits_of n a ∙ sym (length-bits_of n b)) (words_have n n a b wa wb (same h)),
  λ (e : bits_of n a ≡ bits_of n b). apart (have_words n n a b wa wb fa fb (λ k. ap (λ (s : List Bool). has s k) e)),
)
