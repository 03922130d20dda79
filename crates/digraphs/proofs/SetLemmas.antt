-- Sets as lists of tests.
use Rattle.std.proofs.Common.{◌≡◌, ◌≢◌, ℕ, zero, suc, ◌+◌, ◌-◌, ◌<◌, ◌≤◌, inl, inr, Bool, true, false, List, ◌∷◌, length, get_or, set, replicate, ap, sym, ◌∙◌, arith, Contains, get_or-set_same, get_or-set_other}
use Rattle.std.specs.Prelude.{filter, count_by}
use Rattle.std.specs.List.{range_with_len}
use Rattle.std.specs.Cmp.{booleans_Decides}
use Rattle.std.specs.Cmp.Lexicographic.{pointwise, pointwise_decides}
use mathlib.Core.Bool.{beq}
use Rattle.std.proofs.lemmas.Bool.{cases_eq, cases_lt, cases_Bool}
use Rattle.std.proofs.lemmas.List.{get_or_past, length-replicate, get_or-replicate, get_or_default}
use Rattle.digraphs.specs.Bits.{has, members}
use Rattle.digraphs.proofs.BitLemmas.{length-members}

pub has-insert_same : (s : List Bool) (k : ℕ) → k < length s → has (set s k true) k ≡ true
has-insert_same s k h = get_or-set_same s k true false h

pub has-insert_other : (s : List Bool) (k j : ℕ) → j ≢ k → has (set s k true) j ≡ has s j
has-insert_other s k j ne = get_or-set_other s k j true false ne

-- The empty set has no member, within its size or past it.
pub has-empty : (n k : ℕ) → has (replicate n false) k ≡ false
has-empty n k =
    elim (cases_lt k n) [
      | inl l ↦ get_or-replicate n k false false l
      | inr p ↦ get_or_past (replicate n false) k false (omega (arith, length-replicate n false))
    ]

pub has-full : (n k : ℕ) → k < n → has (replicate n true) k ≡ true
has-full n k h = get_or-replicate n k true false h

-- A member is below the set's size.
pub has_inside : (s : List Bool) (k : ℕ) → has s k ≡ true → k < length s
has_inside s k h =
    elim (cases_lt k (length s)) [
      | inl l ↦ l
      | inr p ↦ absurd (let c : false ≡ true = sym (get_or_past s k false p) ∙ h in cc)
    ]

-- `==` decides whether two sets are equal.
pub set_eq_decides : (a b : List Bool) → (pointwise beq a b ≡ true → a ≡ b) × (a ≡ b → pointwise beq a b ≡ true)
set_eq_decides a b = pointwise_decides booleans_Decides a b

-- ---- the list of members

-- The members among `n` numbers from `a` on.
abbrev part : List Bool → ℕ → ℕ → List ℕ
part s a n = filter (λ k. has s k) (range_with_len a n)

record IsIn (s : List Bool) (a n x : ℕ) : Type 0 where
  from : a ≤ x
  below : x < a + n
  is : has s x ≡ true

-- Prepending a member keeps the list within the set.
front_sound : (s : List Bool) (a n : ℕ) (rest : List ℕ) → has s a ≡ true → ((i : ℕ) → i < length rest → IsIn s (a + 1) n (get_or rest i 0)) → (i : ℕ) → i < length (a ∷ rest) → IsIn s a (suc n) (get_or (a ∷ rest) i 0)
front_sound s a n rest e each zero h = record { from = omega arith; below = omega arith; is = e }
front_sound s a n rest e each (suc i) h = let p = each i (omega arith) in record { from = omega (arith, p.from); below = omega (arith, p.below); is = p.is }

front_rises : (a : ℕ) (rest : List ℕ) → ((i : ℕ) → i < length rest → a < get_or rest i 0) → ((i j : ℕ) → i < j → j < length rest → get_or rest i 0 < get_or rest j 0) → (i j : ℕ) → i < j → j < length (a ∷ rest) → get_or (a ∷ rest) i 0 < get_or (a ∷ rest) j 0
front_rises a rest above each i zero l h = absurd (omega arith)
front_rises a rest above each zero (suc j) l h = above j (omega arith)
front_rises a rest above each (suc i) (suc j) l h = each i j (omega arith) (omega arith)

part_sound : (s : List Bool) (a n i : ℕ) → i < length (part s a n) → IsIn s a n (get_or (part s a n) i 0)
part_sound s a zero i h = absurd (omega arith)
part_sound s a (suc n) i h =
    elim (cases_Bool (has s a)) [
      | inl holds ↦ let h' : i < length (a ∷ part s (a + 1) n) = rw holds at h in rw holds (front_sound s a n (part s (a + 1) n) holds (part_sound s (a + 1) n) i h')
      | inr none ↦
          let h' : i < length (part s (a + 1) n) = rw none at h in
          rw none (let p = part_sound s (a + 1) n i h' in record { from = omega (arith, p.from); below = omega (arith, p.below); is = p.is })
    ]

part_complete : (s : List Bool) (a n x : ℕ) → a ≤ x → x < a + n → has s x ≡ true → (i : ℕ) × (i < length (part s a n)) × (get_or (part s a n) i 0 ≡ x)
part_complete s a zero x from below is = absurd (omega arith)
part_complete s a (suc n) x from below is =
    elim (cases_Bool (has s a)) [
      | inl holds ↦
          rw holds (elim (cases_eq x a) [
            | inl e ↦ (0, omega arith, sym e)
            | inr ne ↦ let p = part_complete s (a + 1) n x (omega arith) (omega arith) is in (suc p.0, omega (arith, p.1), p.2)
          ])
      | inr none ↦
          rw none (elim (cases_eq x a) [
            | inl e ↦ absurd (let c : false ≡ true = sym none ∙ ap (λ (k : ℕ). has s k) (sym e) ∙ is in cc)
            | inr ne ↦ part_complete s (a + 1) n x (omega arith) (omega arith) is
          ])
    ]

part_rises : (s : List Bool) (a n i j : ℕ) → i < j → j < length (part s a n) → get_or (part s a n) i 0 < get_or (part s a n) j 0
part_rises s a zero i j l h = absurd (omega arith)
part_rises s a (suc n) i j l h =
    elim (cases_Bool (has s a)) [
      | inl holds ↦
          let h' : j < length (a ∷ part s (a + 1) n) = rw holds at h in
          rw holds (front_rises a (part s (a + 1) n) (λ i l. omega (arith, (part_sound s (a + 1) n i l).from)) (part_rises s (a + 1) n) i j l h')
      | inr none ↦ let h' : j < length (part s (a + 1) n) = rw none at h in rw none (part_rises s (a + 1) n i j l h')
    ]

pub has-members : (s : List Bool) (i : ℕ) → i < length (members s) → has s (get_or (members s) i 0) ≡ true
has-members s i h = (part_sound s 0 (length s) i h).is

pub members_complete : (s : List Bool) (k : ℕ) → has s k ≡ true → (i : ℕ) × (i < length (members s)) × (get_or (members s) i 0 ≡ k)
members_complete s k h = part_complete s 0 (length s) k (omega arith) (omega (arith, has_inside s k h)) h

pub members_rise : (s : List Bool) (i j : ℕ) → i < j → j < length (members s) → get_or (members s) i 0 < get_or (members s) j 0
members_rise s i j l h = part_rises s 0 (length s) i j l h

pub Contains-members : (s : List Bool) (k : ℕ) → has s k ≡ true → Contains (members s) k
Contains-members s k h = let m = members_complete s k h in (m.0, m.1, get_or_default (members s) m.0 k 0 m.1 ∙ m.2)

pub has-Contains : (s : List Bool) (k : ℕ) → Contains (members s) k → has s k ≡ true
has-Contains s k c = ap (λ (x : ℕ). has s x) (sym (get_or_default (members s) c.0 0 k c.1 ∙ c.2)) ∙ has-members s c.0 c.1

-- `count` is the number of members.
pub length-members_count : (s : List Bool) → length (members s) ≡ count_by (λ b. b) s
length-members_count s = ap (λ (n : ℕ). length (filter (λ k. has s k) (range_with_len 0 n))) (let z : length s ≡ length s - 0 = omega arith in z) ∙ length-members s
