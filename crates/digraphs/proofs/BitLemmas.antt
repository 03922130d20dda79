-- The bits of words.
use Rattle.std.proofs.Common.{◌≡◌, ◌≢◌, ℕ, zero, suc, ◌+◌, ◌-◌, ◌*◌, ◌/◌, ◌%◌, ◌^◌, ◌<◌, ◌≤◌, ◌⊎◌, inl, inr, Bool, true, false, ◌||◌, ◌&&◌, ◌==◌, List, [], ◌∷◌, ◌++◌, length, get_or, set, refl, ap, sym, ◌∙◌, subst, arith, bit_or, bit_and, min, max, get_or-set_same, get_or-set_other, replicate, w64, cond, zero-add, add-zero}
use Rattle.std.proofs.Math.ListN.{length-set}
use Rattle.std.proofs.lemmas.Bool.{cases_eq, cases_lt}
use Rattle.std.proofs.lemmas.List.{get_or_past, length-replicate, get_or-replicate, get_or-map, length-map, ext_get_or, map-id}
use Rattle.std.proofs.lemmas.List.FromFn.{length-map-range_with_len, get_or-map-range_with_len, fill_by_all}
use Rattle.std.proofs.lemmas.Nat.Bits.{bit_at_or, bit_at_and, bit_at_set_same, bit_at_set_other, bit_at_clear_same, bit_at_clear_other, bit_at_xor, bit_at_ones, bit_at_ones_above, same_from_bits_below, bit_at-lt, bit_at-zero, bit_at_above, bit_at-trailing_zeros}
use Rattle.std.specs.Int.{bit_at, bit_not, trailing_zeros}
use Rattle.std.specs.Prelude.{map, zip, not, count_by, count_ones, bit_xor, filter}
use Rattle.std.specs.List.{range_with_len}
use Rattle.std.specs.Simd.Lanes.{mask_l}
use mathlib.Core.Bool.{true≢false}
use Rattle.std.proofs.lemmas.Nat.{one_shl, shr_le, shr-shr, div-mul-add, mod-mul-add}
use Rattle.std.proofs.lemmas.Simd.{mask_l-lt, bit_mask_l, ones-mask_l}
use Rattle.std.proofs.lemmas.List.Sums.{sum_by-cons, sum_by-append, length-filter, count_by-le-length}
use Rattle.std.proofs.lemmas.Slice.Zip.{get_or-zip, length-zip}
use Rattle.digraphs.specs.Bits.{has, one_alone}
use Rattle.digraphs.specs.NextMembers.{members_from, IsFirstIn}
use Rattle.digraphs.specs.inner.Words.{word_bit, bits_of, AreWords}

pub length-bits_of : (n : ℕ) (words : List ℕ) → length (bits_of n words) ≡ n
length-bits_of n words = length-map-range_with_len (λ k. word_bit words k == 1) 0 n

pub has-bits_of : (n : ℕ) (words : List ℕ) (k : ℕ) → k < n → has (bits_of n words) k ≡ (word_bit words k == 1)
has-bits_of n words k h = get_or-map-range_with_len (λ j. word_bit words j == 1) 0 n k k false h (omega arith)

-- A list of tests that agrees with each bit is the list of the bits.
pub same_bits : (xs : List Bool) (n : ℕ) (words : List ℕ) → length xs ≡ n → ((k : ℕ) → k < n → has xs k ≡ (word_bit words k == 1)) → xs ≡ bits_of n words
same_bits xs n words l each = fill_by_all (λ k. word_bit words k == 1) xs n false l each

-- The words with bit `k` set.
abbrev with_bit : List ℕ → ℕ → List ℕ
with_bit words k = set words (k / 64) (bit_or (get_or words (k / 64) 0) (1 * 2 ^ (k % 64) % 2 ^ 64))

pub with_bit_same : (words : List ℕ) (k : ℕ) → k / 64 < length words → word_bit (with_bit words k) k ≡ 1
with_bit_same words k h =
    let below : k % 64 < 64 = omega arith in
    rw (get_or-set_same words (k / 64) (bit_or (get_or words (k / 64) 0) (1 * 2 ^ (k % 64) % 2 ^ 64)) 0 h) (bit_at_set_same w64 (get_or words (k / 64) 0) (k % 64) below)

pub with_bit_other : (words : List ℕ) (k j : ℕ) → k / 64 < length words → j ≢ k → word_bit (with_bit words k) j ≡ word_bit words j
with_bit_other words k j h ne =
    elim (cases_eq (j / 64) (k / 64)) [
      | inl e ↦
          let below : k % 64 < 64 = omega arith in
          let low : j % 64 < 64 = omega arith in
          let apart : j % 64 ≢ k % 64 = λ same. ne (omega arith) in
          rw (e, get_or-set_same words (k / 64) (bit_or (get_or words (k / 64) 0) (1 * 2 ^ (k % 64) % 2 ^ 64)) 0 h)
          (bit_at_set_other w64 (get_or words (k / 64) 0) (k % 64) below (j % 64) apart)
      | inr other ↦ rw (get_or-set_other words (k / 64) (j / 64) (bit_or (get_or words (k / 64) 0) (1 * 2 ^ (k % 64) % 2 ^ 64)) 0 other) refl
    ]

pub with_bit_words : (n : ℕ) (words : List ℕ) (k : ℕ) → k < n → AreWords n words → AreWords n (with_bit words k)
with_bit_words n words k h a =
    let inside : k / 64 < length words = omega (arith, a.long) in
    record {
      long = length-set words (k / 64) _ ∙ a.long;
      fits = a.fits;
      clear = λ j le. let ne : j ≢ k = omega arith in with_bit_other words k j inside ne ∙ a.clear j le;
    }

pub with_bit_view : (n : ℕ) (words : List ℕ) (k : ℕ) → k < n → AreWords n words → bits_of n (with_bit words k) ≡ set (bits_of n words) k true
with_bit_view n words k h a =
    let inside : k / 64 < length words = omega (arith, a.long) in
    let long = length-bits_of n words in
    sym (same_bits (set (bits_of n words) k true) n (with_bit words k) (length-set (bits_of n words) k true ∙ long)
    (λ j lj.
    elim (cases_eq j k) [
      | inl e ↦ rw (e, get_or-set_same (bits_of n words) k true false (omega arith), with_bit_same words k inside) refl
      | inr ne ↦ rw (get_or-set_other (bits_of n words) k j true false ne, with_bit_other words k j inside ne) (has-bits_of n words j lj)
    ]))

-- The words with bit `k` cleared.
abbrev without_bit : List ℕ → ℕ → List ℕ
without_bit words k = set words (k / 64) (bit_and (get_or words (k / 64) 0) (bit_not w64 (1 * 2 ^ (k % 64) % 2 ^ 64)))

without_bit_same : (words : List ℕ) (k : ℕ) → k / 64 < length words → word_bit (without_bit words k) k ≡ 0
without_bit_same words k h =
    let below : k % 64 < 64 = omega arith in
    rw (get_or-set_same words (k / 64) (bit_and (get_or words (k / 64) 0) (bit_not w64 (1 * 2 ^ (k % 64) % 2 ^ 64))) 0 h) (bit_at_clear_same w64 (get_or words (k / 64) 0) (k % 64) below)

without_bit_other : (words : List ℕ) (k j : ℕ) → k / 64 < length words → j ≢ k → word_bit (without_bit words k) j ≡ word_bit words j
without_bit_other words k j h ne =
    elim (cases_eq (j / 64) (k / 64)) [
      | inl e ↦
          let below : k % 64 < 64 = omega arith in
          let low : j % 64 < 64 = omega arith in
          let apart : j % 64 ≢ k % 64 = λ same. ne (omega arith) in
          rw (e, get_or-set_same words (k / 64) (bit_and (get_or words (k / 64) 0) (bit_not w64 (1 * 2 ^ (k % 64) % 2 ^ 64))) 0 h)
          (bit_at_clear_other w64 (get_or words (k / 64) 0) (k % 64) below (j % 64) low apart)
      | inr other ↦ rw (get_or-set_other words (k / 64) (j / 64) (bit_and (get_or words (k / 64) 0) (bit_not w64 (1 * 2 ^ (k % 64) % 2 ^ 64))) 0 other) refl
    ]

pub without_bit_words : (n : ℕ) (words : List ℕ) (k : ℕ) → k < n → AreWords n words → AreWords n (without_bit words k)
without_bit_words n words k h a =
    let inside : k / 64 < length words = omega (arith, a.long) in
    record {
      long = length-set words (k / 64) _ ∙ a.long;
      fits = a.fits;
      clear = λ j le. let ne : j ≢ k = omega arith in without_bit_other words k j inside ne ∙ a.clear j le;
    }

pub without_bit_view : (n : ℕ) (words : List ℕ) (k : ℕ) → k < n → AreWords n words → bits_of n (without_bit words k) ≡ set (bits_of n words) k false
without_bit_view n words k h a =
    let inside : k / 64 < length words = omega (arith, a.long) in
    let long = length-bits_of n words in
    sym (same_bits (set (bits_of n words) k false) n (without_bit words k) (length-set (bits_of n words) k false ∙ long)
    (λ j lj.
    elim (cases_eq j k) [
      | inl e ↦ rw (e, get_or-set_same (bits_of n words) k false false (omega arith), without_bit_same words k inside) refl
      | inr ne ↦ rw (get_or-set_other (bits_of n words) k j false false ne, without_bit_other words k j inside ne) (has-bits_of n words j lj)
    ]))

pub empty_view : (n m : ℕ) (words : List ℕ) → words ≡ replicate m 0 → bits_of n words ≡ replicate n false
empty_view n m words e =
    sym (same_bits (replicate n false) n words (length-replicate n false)
    (λ k h. rw (get_or-replicate n k false false h, e, zero_word m k) refl))
  where
    zero_word : (m k : ℕ) → word_bit (replicate m 0) k ≡ 0
    zero_word m k =
        elim (cases_lt (k / 64) m) [
          | inl l ↦ rw (get_or-replicate {A = ℕ} m (k / 64) 0 0 l) (bit_at-zero (k % 64))
          | inr p ↦ rw (get_or_past {X = ℕ} (replicate m 0) (k / 64) 0 (omega (arith, length-replicate {A = ℕ} m 0))) (bit_at-zero (k % 64))
        ]

-- A set's size is the length of its view.
pub size_is : (n : ℕ) (words : List ℕ) (now : List Bool) → bits_of n words ≡ now → n ≡ length now
size_is n words now e = sym (length-bits_of n words) ∙ ap length e

pub has_is : (n : ℕ) (words : List ℕ) (now : List Bool) (k : ℕ) → bits_of n words ≡ now → k < length now → has now k ≡ (word_bit words k == 1)
has_is n words now k e h = ap (λ (s : List Bool). has s k) (sym e) ∙ has-bits_of n words k (omega (arith, size_is n words now e))

pub members_from_yes : (set : List Bool) (n m : ℕ) → m ≡ n + 1 → n < length set → has set n ≡ true → members_from set n ≡ n ∷ members_from set m
members_from_yes xs n m e h holds =
    let s : length xs - n ≡ suc (length xs - (n + 1)) = omega arith in
    rw (e, s, holds) refl

pub members_from_no : (set : List Bool) (n m : ℕ) → m ≡ n + 1 → n < length set → has set n ≡ false → members_from set n ≡ members_from set m
members_from_no xs n m e h fails =
    let s : length xs - n ≡ suc (length xs - (n + 1)) = omega arith in
    rw (e, s, fails) refl

pub members_from_end : (set : List Bool) (n : ℕ) → length set ≤ n → members_from set n ≡ []
members_from_end xs n h = let z : length xs - n ≡ 0 = omega arith in rw z refl

pub ruleset member_steps = (members_from_yes, members_from_no, members_from_end)

-- ---- bits of one word

-- A bit is 0 or 1.
pub bit_cases : (b : ℕ) → b < 2 → (b ≡ 0) ⊎ (b ≡ 1)
bit_cases b h = elim (cases_lt b 1) [ inl l ↦ inl (omega arith) | inr p ↦ inr (omega arith) ]

pub bit_none : (b : ℕ) → b < 2 → (b == 1) ≡ false → b ≡ 0
bit_none zero h e = refl
bit_none (suc zero) h e = absurd (true≢false e)
bit_none (suc (suc b)) h e = absurd (omega arith)

-- Bit `64 * i + j` of the words is bit `j` of word `i`.
pub word_bit_at : (words : List ℕ) (i j : ℕ) → j < 64 → word_bit words (i * 64 + j) ≡ bit_at (get_or words i 0) j
word_bit_at words i j h =
    let place : (i * 64 + j) / 64 ≡ i = div-mul-add i 64 j h in
    let rest : (i * 64 + j) % 64 ≡ j = mod-mul-add i 64 j h in
    rw (place, rest) refl

-- ---- sets that agree on each number are equal

pub same_sets : (xs ys : List Bool) → length xs ≡ length ys → ((k : ℕ) → has xs k ≡ has ys k) → xs ≡ ys
same_sets xs ys l each = ext_get_or false xs ys l (λ i h. each i)

pub has_past : (set : List Bool) (k : ℕ) → length set ≤ k → has set k ≡ false
has_past s k h = get_or_past s k false h

-- ---- the full set

abbrev pub full_words : ℕ → List ℕ
full_words n = set (replicate (n / 64 + 1) (2 ^ 64 - 1)) (n / 64) (1 * 2 ^ (n % 64) % 2 ^ 64 - 1)

full_bit : (n k : ℕ) → k < n → word_bit (full_words n) k ≡ 1
full_bit n k h =
    let low : n % 64 < 64 = omega arith in
    let room : n / 64 < length (replicate (n / 64 + 1) (2 ^ 64 - 1)) = omega (arith, length-replicate (n / 64 + 1) (2 ^ 64 - 1)) in
    elim (cases_eq (k / 64) (n / 64)) [
      | inl e ↦
          rw (e, get_or-set_same (replicate (n / 64 + 1) (2 ^ 64 - 1)) (n / 64) (1 * 2 ^ (n % 64) % 2 ^ 64 - 1) 0 room, one_shl (n % 64) 64 low)
          (bit_at_ones (n % 64) (k % 64) (omega arith))
      | inr ne ↦
          rw (get_or-set_other (replicate (n / 64 + 1) (2 ^ 64 - 1)) (n / 64) (k / 64) (1 * 2 ^ (n % 64) % 2 ^ 64 - 1) 0 ne, get_or-replicate (n / 64 + 1) (k / 64) (2 ^ 64 - 1) 0 (omega arith))
          (bit_at_ones 64 (k % 64) (omega arith))
    ]

full_clear : (n k : ℕ) → n ≤ k → word_bit (full_words n) k ≡ 0
full_clear n k h =
    let low : n % 64 < 64 = omega arith in
    let room : n / 64 < length (replicate (n / 64 + 1) (2 ^ 64 - 1)) = omega (arith, length-replicate (n / 64 + 1) (2 ^ 64 - 1)) in
    elim (cases_eq (k / 64) (n / 64)) [
      | inl e ↦
          rw (e, get_or-set_same (replicate (n / 64 + 1) (2 ^ 64 - 1)) (n / 64) (1 * 2 ^ (n % 64) % 2 ^ 64 - 1) 0 room, one_shl (n % 64) 64 low)
          (bit_at_ones_above (n % 64) (k % 64) (omega arith))
      | inr ne ↦
          rw (get_or-set_other (replicate (n / 64 + 1) (2 ^ 64 - 1)) (n / 64) (k / 64) (1 * 2 ^ (n % 64) % 2 ^ 64 - 1) 0 ne, get_or_past (replicate (n / 64 + 1) (2 ^ 64 - 1)) (k / 64) 0 (omega (arith, length-replicate (n / 64 + 1) (2 ^ 64 - 1))))
          (bit_at-zero (k % 64))
    ]

pub full_are_words : (n : ℕ) → n < 2 ^ 64 → AreWords n (full_words n)
full_are_words n h =
    record {
      long = length-set (replicate (n / 64 + 1) (2 ^ 64 - 1)) (n / 64) _ ∙ length-replicate (n / 64 + 1) (2 ^ 64 - 1);
      fits = h;
      clear = full_clear n;
    }

pub full_view : (n : ℕ) → bits_of n (full_words n) ≡ replicate n true
full_view n =
    sym (same_bits (replicate n true) n (full_words n) (length-replicate n true)
    (λ k h. rw (get_or-replicate n k true false h, full_bit n k h) refl))

pub empty_are_words : (n : ℕ) → n < 2 ^ 64 → AreWords n (replicate (n / 64 + 1) 0)
empty_are_words n f =
    record {
      long = length-replicate (n / 64 + 1) 0;
      fits = f;
      clear = λ k h. elim (cases_lt (k / 64) (n / 64 + 1)) [
        | inl l ↦ rw (get_or-replicate {A = ℕ} (n / 64 + 1) (k / 64) 0 0 l) (bit_at-zero (k % 64))
        | inr p ↦ rw (get_or_past {X = ℕ} (replicate (n / 64 + 1) 0) (k / 64) 0 (omega (arith, length-replicate {A = ℕ} (n / 64 + 1) 0))) (bit_at-zero (k % 64))
      ];
    }

-- ---- the words of an operation on two sets

-- `op` on two words does `t` on each pair of bits.
pub record Combines (op : ℕ → ℕ → ℕ) (t : Bool → Bool → Bool) : Type 0 where
  pub none : t false false ≡ false
  pub bits : (x y j : ℕ) → (bit_at (op x y) j == 1) ≡ t (bit_at x j == 1) (bit_at y j == 1)

abbrev pub combined : (ℕ → ℕ → ℕ) → List ℕ → List ℕ → List ℕ
combined op a b = map (λ (p : ℕ × ℕ). op p.0 p.1) (zip a b)

combined_bit : (op : ℕ → ℕ → ℕ) (t : Bool → Bool → Bool) → Combines op t → (a b : List ℕ) → length a ≡ length b → (k : ℕ) → (word_bit (combined op a b) k == 1) ≡ t (word_bit a k == 1) (word_bit b k == 1)
combined_bit op t c a b same k =
    elim (cases_lt (k / 64) (length a)) [
      | inl l ↦
          let m : k / 64 < length b = omega arith in
          let long : k / 64 < length (zip a b) = omega (arith, length-zip a b) in
          rw (get_or-map (λ (p : ℕ × ℕ). op p.0 p.1) (zip a b) (k / 64) (0, 0) 0 long, get_or-zip a b (k / 64) (0, 0) l m)
          (c.bits (get_or a (k / 64) 0) (get_or b (k / 64) 0) (k % 64))
      | inr p ↦
          rw (get_or_past (combined op a b) (k / 64) 0 (omega (arith, length-map (zip a b) (λ (p : ℕ × ℕ). op p.0 p.1), length-zip a b)), get_or_past a (k / 64) 0 p, get_or_past b (k / 64) 0 (omega arith), bit_at-zero (k % 64))
          (sym c.none)
    ]

pub combined_words : (op : ℕ → ℕ → ℕ) (t : Bool → Bool → Bool) → Combines op t → (n : ℕ) (a b : List ℕ) → AreWords n a → AreWords n b → AreWords n (combined op a b)
combined_words op t c n a b wa wb =
    record {
      long = length-map (zip a b) (λ (p : ℕ × ℕ). op p.0 p.1) ∙ omega (arith, length-zip a b, wa.long, wb.long);
      fits = wa.fits;
      clear = λ k h. bit_none (word_bit (combined op a b) k) (bit_at-lt _ _) (combined_bit op t c a b (wa.long ∙ sym wb.long) k ∙ rw (wa.clear k h, wb.clear k h) c.none);
    }

pub combined_has : (op : ℕ → ℕ → ℕ) (t : Bool → Bool → Bool) → Combines op t → (n : ℕ) (a b : List ℕ) → AreWords n a → AreWords n b → (k : ℕ) → has (bits_of n (combined op a b)) k ≡ t (has (bits_of n a) k) (has (bits_of n b) k)
combined_has op t c n a b wa wb k =
    elim (cases_lt k n) [
      | inl h ↦ rw (has-bits_of n (combined op a b) k h, has-bits_of n a k h, has-bits_of n b k h) (combined_bit op t c a b (wa.long ∙ sym wb.long) k)
      | inr p ↦
          rw (has_past (bits_of n (combined op a b)) k (omega (arith, length-bits_of n (combined op a b))), has_past (bits_of n a) k (omega (arith, length-bits_of n a)), has_past (bits_of n b) k (omega (arith, length-bits_of n b)))
          (sym c.none)
    ]

-- A property of two bits holds if it holds in the four cases.
on_bits : (P : ℕ → ℕ → Type 0) → P 0 0 → P 0 1 → P 1 0 → P 1 1 → (x y : ℕ) → x < 2 → y < 2 → P x y
on_bits P a b c d zero zero h k = a
on_bits P a b c d zero (suc zero) h k = b
on_bits P a b c d (suc zero) zero h k = c
on_bits P a b c d (suc zero) (suc zero) h k = d
on_bits P a b c d x (suc (suc y)) h k = absurd (omega arith)
on_bits P a b c d (suc (suc x)) y h k = absurd (omega arith)

pub combines_or : Combines bit_or (λ x y. x || y)
combines_or =
    record {
      none = refl;
      bits = λ x y j. rw (bit_at_or x y j) (on_bits (λ a b. (max a b == 1) ≡ ((a == 1) || (b == 1))) refl refl refl refl (bit_at x j) (bit_at y j) (bit_at-lt x j) (bit_at-lt y j));
    }

pub combines_and : Combines bit_and (λ x y. x && y)
combines_and =
    record {
      none = refl;
      bits = λ x y j. rw (bit_at_and x y j) (on_bits (λ a b. (min a b == 1) ≡ ((a == 1) && (b == 1))) refl refl refl refl (bit_at x j) (bit_at y j) (bit_at-lt x j) (bit_at-lt y j));
    }

pub combines_but : Combines (λ x y. bit_and x (bit_xor x y)) (λ x y. x && not y)
combines_but =
    record {
      none = refl;
      bits = λ x y j.
          rw (bit_at_and x (bit_xor x y) j, bit_at_xor x y j)
          (on_bits (λ a b. (min a ((a + b) % 2) == 1) ≡ ((a == 1) && not (b == 1))) refl refl refl refl (bit_at x j) (bit_at y j) (bit_at-lt x j) (bit_at-lt y j));
    }

pub combines_xor : Combines bit_xor one_alone
combines_xor =
    record {
      none = refl;
      bits = λ x y j. rw (bit_at_xor x y j) (on_bits (λ a b. ((a + b) % 2 == 1) ≡ one_alone (a == 1) (b == 1)) refl refl refl refl (bit_at x j) (bit_at y j) (bit_at-lt x j) (bit_at-lt y j));
    }

-- ---- counting by words

range_cat : {X : Type 0} (f : ℕ → X) (a n m : ℕ) → map f (range_with_len a (n + m)) ≡ map f (range_with_len a n) ++ map f (range_with_len (a + n) m)
range_cat f a zero m = rw (zero-add m, add-zero a) refl
range_cat f a (suc n) m =
    let shift : a + 1 + n ≡ a + suc n = omega arith in
    let count : suc n + m ≡ suc (n + m) = omega arith in
    rw count (ap (λ xs. f a ∷ xs) (rw shift at (range_cat f (a + 1) n m)))

abbrev pub ticks : List Bool → ℕ
ticks xs = count_by (λ b. b) xs

no_ticks : (f : ℕ → Bool) (a m : ℕ) → ((k : ℕ) → a ≤ k → f k ≡ false) → ticks (map f (range_with_len a m)) ≡ 0
no_ticks f a zero h = refl
no_ticks f a (suc m) h =
    sum_by-cons (λ (b : Bool). cond b 1 0) (f a) (map f (range_with_len (a + 1) m))
    ∙ rw (h a (omega arith), zero-add) (no_ticks f (a + 1) m (λ k l. h k (omega arith)))

-- The bits of one word.
word_bits : ℕ → List Bool
word_bits w = map (λ k. bit_at w k == 1) (range_with_len 0 64)

word_is_mask : (w : ℕ) → w < 2 ^ 64 → mask_l (map (λ k. bit_at w k == 1) (range_with_len 0 64)) ≡ w
word_is_mask w h =
    let ms = map (λ k. bit_at w k == 1) (range_with_len 0 64) in
    let long : length ms ≡ 64 = length-map-range_with_len (λ k. bit_at w k == 1) 0 64 in
    same_from_bits_below 64 (mask_l ms) w (subst (λ (n : ℕ). mask_l ms < 2 ^ n) long (mask_l-lt ms)) h
    (λ i l. bit_mask_l ms i ∙ rw (get_or-map-range_with_len (λ k. bit_at w k == 1) 0 64 i i false l (omega arith))
    (on_bits (λ a b. cond (a == 1) 1 0 ≡ a) refl refl refl refl (bit_at w i) 0 (bit_at-lt w i) (omega arith)))

pub ticks_of_word : (w : ℕ) → w < 2 ^ 64 → ticks (map (λ k. bit_at w k == 1) (range_with_len 0 64)) ≡ count_ones w
ticks_of_word w h =
    let ms = map (λ k. bit_at w k == 1) (range_with_len 0 64) in
    sym (ones-mask_l (λ b. b) ms) ∙ ap count_ones (ap mask_l (map-id ms) ∙ word_is_mask w h)

-- One more word adds its number of ones to the count.
pub ticks_more : (words : List ℕ) (i : ℕ) → get_or words i 0 < 2 ^ 64 → ticks (bits_of ((i + 1) * 64) words) ≡ ticks (bits_of (i * 64) words) + count_ones (get_or words i 0)
ticks_more words i h =
    let f : ℕ → Bool = λ k. word_bit words k == 1 in
    let g : ℕ → Bool = λ k. bit_at (get_or words i 0) k == 1 in
    let more : (i + 1) * 64 ≡ i * 64 + 64 = omega arith in
    let last : map f (range_with_len (i * 64) 64) ≡ map g (range_with_len 0 64) =
    fill_by_all g (map f (range_with_len (i * 64) 64)) 64 false (length-map-range_with_len f (i * 64) 64)
    (λ k l. get_or-map-range_with_len f (i * 64) 64 k (i * 64 + k) false l refl ∙ ap (λ (b : ℕ). b == 1) (word_bit_at words i k l)) in
    ap (λ (n : ℕ). ticks (map f (range_with_len 0 n))) more ∙ ap ticks (range_cat f 0 (i * 64) 64)
    ∙ sum_by-append (λ (b : Bool). cond b 1 0) (map f (range_with_len 0 (i * 64))) (map f (range_with_len (0 + i * 64) 64))
    ∙ ap (λ (n : ℕ). ticks (bits_of (i * 64) words) + ticks (map f (range_with_len n 64))) (zero-add (i * 64))
    ∙ ap (λ (xs : List Bool). ticks (bits_of (i * 64) words) + ticks xs) last
    ∙ ap (λ (n : ℕ). ticks (bits_of (i * 64) words) + n) (ticks_of_word (get_or words i 0) h)

-- Bits past the last number add nothing to the count.
pub ticks_past : (n m : ℕ) (words : List ℕ) → AreWords n words → n ≤ m → ticks (bits_of m words) ≡ ticks (bits_of n words)
ticks_past n m words w le =
    let f : ℕ → Bool = λ k. word_bit words k == 1 in
    let d : ℕ = m - n in
    let more : m ≡ n + d = omega arith in
    ap (λ (k : ℕ). ticks (map f (range_with_len 0 k))) more ∙ ap ticks (range_cat f 0 n d)
    ∙ sum_by-append (λ (b : Bool). cond b 1 0) (map f (range_with_len 0 n)) (map f (range_with_len (0 + n) d))
    ∙ ap (λ (k : ℕ). ticks (bits_of n words) + k) (no_ticks f (0 + n) d (λ k past. rw (w.clear k (omega arith)) refl))
    ∙ add-zero (ticks (bits_of n words))

pub ticks_all : (n : ℕ) (words : List ℕ) → AreWords n words → ticks (bits_of (length words * 64) words) ≡ ticks (bits_of n words)
ticks_all n words w = ticks_past n (length words * 64) words w (omega (arith, w.long))

-- A set has at most `n` members.
pub ticks_le : (n m : ℕ) (words : List ℕ) → AreWords n words → ticks (bits_of m words) ≤ n
ticks_le n m words w =
    elim (cases_lt m n) [
      | inl l ↦ omega (arith, count_by-le-length (λ b. b) (bits_of m words), length-bits_of m words)
      | inr p ↦ omega (arith, ticks_past n m words w p, count_by-le-length (λ b. b) (bits_of n words), length-bits_of n words)
    ]

-- The number of members is the length of their list.
pub length-members : (set : List Bool) → length (members_from set 0) ≡ ticks set
length-members s =
    let z : length s - 0 ≡ length s = omega arith in
    ap (λ (n : ℕ). length (filter (λ k. has s k) (range_with_len 0 n))) z
    ∙ length-filter (λ k. has s k) (range_with_len 0 (length s))
    ∙ count_by_of_map (range_with_len 0 (length s))
    ∙ ap ticks (sym (fill_by_all (λ k. has s k) s (length s) false refl (λ k h. refl)))
  where
    count_by_of_map : (ks : List ℕ) → count_by (λ k. has s k) ks ≡ ticks (map (λ k. has s k) ks)
    count_by_of_map [] = refl
    count_by_of_map (k ∷ ks) =
        sum_by-cons (λ (j : ℕ). cond (has s j) 1 0) k ks ∙ ap (λ (n : ℕ). cond (has s k) 1 0 + n) (count_by_of_map ks)
        ∙ sym (sum_by-cons (λ (b : Bool). cond b 1 0) (has s k) (map (λ j. has s j) ks))

-- ---- the next number of a set

pub members_from_skip : (set : List Bool) (n d : ℕ) → ((j : ℕ) → n ≤ j → j < n + d → has set j ≡ false) → members_from set n ≡ members_from set (n + d)
members_from_skip s n zero none = ap (λ (k : ℕ). members_from s k) (sym (add-zero n))
members_from_skip s n (suc d) none =
    let shift : n + 1 + d ≡ n + suc d = omega arith in
    elim (cases_lt n (length s)) [
      | inl h ↦ members_from_no s n (n + 1) refl h (none n (omega arith) (omega arith)) ∙ rw shift at (members_from_skip s (n + 1) d (λ j a b. none j (omega arith) (omega arith)))
      | inr p ↦ members_from_end s n p ∙ sym (members_from_end s (n + suc d) (omega arith))
    ]

-- `k` is the least member that is at least `from`.
pub record IsNext (set : List Bool) (from k : ℕ) : Type 0 where
  pub after : from ≤ k
  pub inside : k < length set
  pub list : members_from set from ≡ k ∷ members_from set (k + 1)

pub next_found : (n : ℕ) (words : List ℕ) (now : List Bool) (from k : ℕ) → AreWords n words → bits_of n words ≡ now → from ≤ k → word_bit words k ≡ 1 → ((j : ℕ) → from ≤ j → j < k → word_bit words j ≡ 0) → IsNext now from k
next_found n words now from k w e le one none =
    let size = size_is n words now e in
    let inside : k < n =
    elim (cases_lt k n) [
      | inl h ↦ h
      | inr p ↦ absurd (omega (arith, one, w.clear k p))
    ] in
    let within : k < length now = omega arith in
    let d : from + (k - from) ≡ k = omega arith in
    let skip : members_from now from ≡ members_from now k =
    rw d at (members_from_skip now from (k - from) (λ j a b. has_is n words now j e (omega arith) ∙ rw (none j a (omega arith)) refl)) in
    record {
      after = le;
      inside = within;
      list = skip ∙ members_from_yes now k (k + 1) refl within (has_is n words now k e within ∙ rw one refl);
    }

pub next_none : (n : ℕ) (words : List ℕ) (now : List Bool) (from : ℕ) → AreWords n words → bits_of n words ≡ now → from ≤ n → ((j : ℕ) → from ≤ j → j < length words * 64 → word_bit words j ≡ 0) → members_from now from ≡ []
next_none n words now from w e le none =
    let size = size_is n words now e in
    let d : from + (n - from) ≡ n = omega arith in
    rw d at (members_from_skip now from (n - from) (λ j a b. has_is n words now j e (omega arith) ∙ rw (none j a (omega (arith, w.long))) refl))
    ∙ members_from_end now n (omega arith)

-- Bit `j` of a word shifted by `s` is its bit `s + j`.
pub shifted_bit : (w s j : ℕ) → bit_at (w / 2 ^ s) j ≡ bit_at w (s + j)
shifted_bit w s j = ap (λ (x : ℕ). x % 2) (shr-shr w s j)

-- Bit `from + j` of the words is in the word of `from`.
pub bit_in_word : (words : List ℕ) (from j : ℕ) → from % 64 + j < 64 → word_bit words (from + j) ≡ bit_at (get_or words (from / 64) 0) (from % 64 + j)
bit_in_word words from j h =
    let place : from + j ≡ from / 64 * 64 + (from % 64 + j) = omega arith in
    rw place (word_bit_at words (from / 64) (from % 64 + j) h)

-- If the shifted first word isn't 0, its lowest bit is the next member.
pub next_in_first : (n : ℕ) (words : List ℕ) (now : List Bool) (from w : ℕ) → AreWords n words → bits_of n words ≡ now → get_or words (from / 64) 0 < 2 ^ 64 → w ≡ get_or words (from / 64) 0 / 2 ^ (from % 64) → 0 < w → (from % 64 + trailing_zeros w64 w < 64) × IsNext now from (from + trailing_zeros w64 w)
next_in_first n words now from w a e fits is some =
    let word : ℕ = get_or words (from / 64) 0 in
    let bound : w < 2 ^ 64 = omega (arith, is, shr_le word (from % 64)) in
    let low = bit_at-trailing_zeros w64 w some bound in
    let t : ℕ = trailing_zeros w64 w in
    let bit : bit_at word (from % 64 + t) ≡ 1 = sym (shifted_bit word (from % 64) t) ∙ ap (λ (x : ℕ). bit_at x t) (sym is) ∙ low.1 in
    let inside : from % 64 + t < 64 =
    elim (cases_lt (from % 64 + t) 64) [
      | inl h ↦ h
      | inr p ↦ absurd (omega (arith, bit, bit_at_above word 64 (from % 64 + t) fits p))
    ] in (
      inside,
      next_found n words now from (from + t) a e (omega arith) (bit_in_word words from t inside ∙ bit)
          (λ j from_j j_below.
          let there : from + (j - from) ≡ j = omega arith in
          rw (← there) (bit_in_word words from (j - from) (omega arith) ∙ sym (shifted_bit word (from % 64) (j - from)) ∙ ap (λ (x : ℕ). bit_at x (j - from)) (sym is) ∙ low.2 (j - from) (omega arith))),
    )

-- If the shifted first word is 0, no bit from `from` to the end of that word is set.
pub none_in_first : (words : List ℕ) (from : ℕ) → get_or words (from / 64) 0 / 2 ^ (from % 64) ≡ 0 → (j : ℕ) → from ≤ j → j < (from / 64 + 1) * 64 → word_bit words j ≡ 0
none_in_first words from is j from_j j_below =
    let there : from + (j - from) ≡ j = omega arith in
    rw (← there) (bit_in_word words from (j - from) (omega arith) ∙ sym (shifted_bit (get_or words (from / 64) 0) (from % 64) (j - from)) ∙ rw is (bit_at-zero (j - from)))

-- If all words before word `p` have no bit from `from` on and word `p` isn't 0, its lowest bit is the next
-- member.
pub next_in_later : (n : ℕ) (words : List ℕ) (now : List Bool) (from p : ℕ) → AreWords n words → bits_of n words ≡ now → get_or words p 0 < 2 ^ 64 → from ≤ p * 64 → ((j : ℕ) → from ≤ j → j < p * 64 → word_bit words j ≡ 0) → 0 < get_or words p 0 → (trailing_zeros w64 (get_or words p 0) < 64) × IsNext now from (p * 64 + trailing_zeros w64 (get_or words p 0))
next_in_later n words now from p a e fits le none some =
    let word : ℕ = get_or words p 0 in
    let low = bit_at-trailing_zeros w64 word some fits in
    let t : ℕ = trailing_zeros w64 word in (
      low.0,
      next_found n words now from (p * 64 + t) a e (omega arith) (word_bit_at words p t low.0 ∙ low.1)
          (λ j from_j j_below.
          elim (cases_lt j (p * 64)) [
            | inl h ↦ none j from_j h
            | inr past ↦
                let there : p * 64 + (j - p * 64) ≡ j = omega arith in
                rw (← there) (word_bit_at words p (j - p * 64) (omega arith) ∙ low.2 (j - p * 64) (omega arith))
          ]),
    )

-- If word `p` is 0 as well, no bit from `from` to its end is set.
pub none_in_later : (words : List ℕ) (from p : ℕ) → get_or words p 0 ≡ 0 → ((j : ℕ) → from ≤ j → j < p * 64 → word_bit words j ≡ 0) → (j : ℕ) → from ≤ j → j < (p + 1) * 64 → word_bit words j ≡ 0
none_in_later words from p is none j from_j j_below =
    elim (cases_lt j (p * 64)) [
      | inl h ↦ none j from_j h
      | inr past ↦
          let there : p * 64 + (j - p * 64) ≡ j = omega arith in
          rw (← there) (word_bit_at words p (j - p * 64) (omega arith) ∙ rw is (bit_at-zero (j - p * 64)))
    ]

-- ---- one word

-- A word that is 0 has no member.
pub none_in_word : (n : ℕ) (words : List ℕ) (now : List Bool) (p : ℕ) → bits_of n words ≡ now → get_or words p 0 ≡ 0 → (j : ℕ) → j / 64 ≡ p → has now j ≡ false
none_in_word n words now p e is j at =
    elim (cases_lt j (length now)) [
      | inr past ↦ has_past now j past
      | inl h ↦ has_is n words now j e h ∙ rw (none_in_later words (p * 64) p is (λ i a b. absurd (omega arith)) j (omega arith) (omega arith)) refl
    ]

-- The lowest bit of a word is its least member.
pub first_in_word : (n : ℕ) (words : List ℕ) (now : List Bool) (p : ℕ) → AreWords n words → bits_of n words ≡ now → get_or words p 0 < 2 ^ 64 → 0 < get_or words p 0 → (trailing_zeros w64 (get_or words p 0) < 64) × (p * 64 + trailing_zeros w64 (get_or words p 0) < length now) × IsFirstIn now p (p * 64 + trailing_zeros w64 (get_or words p 0))
first_in_word n words now p a e fits some =
    let next = next_in_later n words now (p * 64) p a e fits (omega arith) (λ j b c. absurd (omega arith)) some in
    let word : ℕ = get_or words p 0 in
    let low = bit_at-trailing_zeros w64 word some fits in
    let t : ℕ = trailing_zeros w64 word in
    let inside : p * 64 + t < length now = next.1.inside in (
      low.0,
      inside,
      record {
        word = omega (arith, low.0);
        is = has_is n words now (p * 64 + t) e inside ∙ rw (word_bit_at words p t low.0 ∙ low.1) refl;
        least = λ j at h.
            elim (cases_lt j (p * 64 + t)) [
              | inr le ↦ le
              | inl less ↦
                  let there : p * 64 + (j - p * 64) ≡ j = omega arith in
                  let off : word_bit words j ≡ 0 = rw (← there) (word_bit_at words p (j - p * 64) (omega arith) ∙ low.2 (j - p * 64) (omega arith)) in
                  absurd (true≢false (sym h ∙ has_is n words now j e (omega arith) ∙ rw off refl))
            ];
      },
    )
