-- A queue is a set of bits, with sets of its words above it.
use Rattle.std.proofs.Common.{◌≡◌, ◌≢◌, ℕ, ◌+◌, ◌-◌, ◌/◌, ◌<◌, ◌≤◌, inl, inr, Bool, true, false, List, [], ◌∷◌, length, get_or, set, replicate, refl, ap, sym, ◌∙◌, arith, cond, get_or-set_same, get_or-set_other}
use Rattle.std.proofs.Math.ListN.{length-set}
use Rattle.std.proofs.lemmas.Bool.{cases_eq}
use Rattle.std.proofs.lemmas.List.{length-replicate}
use Rattle.std.proofs.lemmas.List.Sums.{sum_by-set}
use mathlib.Core.Bool.{true≢false}
use Rattle.digraphs.specs.Bits.{has, members}
use Rattle.digraphs.specs.NextMembers.{members_from}
use Rattle.digraph_orders.specs.inner.Queues.{Joins, Leaves, IsAbove}
use Rattle.digraphs.proofs.BitLemmas.{ticks, length-members}
use Rattle.digraphs.proofs.SetLemmas.{has-insert_same, has-insert_other, has-empty, has_inside, has-members, members_complete, members_rise, Contains-members, has-Contains}

from_start : (s : List Bool) → members_from s 0 ≡ members s
from_start s = let z : length s - 0 ≡ length s = omega arith in rw z refl

-- ---- one number less

pub has_less : (s : List Bool) (k j : ℕ) → has (set s k false) j ≡ true → (j ≢ k) × (has s j ≡ true)
has_less s k j h =
    elim (cases_eq j k) [
      | inr ne ↦ (ne, sym (get_or-set_other s k j false false ne) ∙ h)
      | inl e ↦
          let inside : k < length s = let i = has_inside (set s k false) j h in omega (arith, i, e, length-set s k false) in
          let off : has (set s k false) j ≡ false = rw e (get_or-set_same s k false false inside) in
          absurd (true≢false (sym h ∙ off))
    ]

pub has_other : (s : List Bool) (k j : ℕ) → j ≢ k → has s j ≡ true → has (set s k false) j ≡ true
has_other s k j ne h = get_or-set_other s k j false false ne ∙ h

pub ticks_less : (s : List Bool) (k : ℕ) → has s k ≡ true → ticks (set s k false) + 1 ≡ ticks s
ticks_less s k h =
    let sum = sum_by-set (λ (b : Bool). cond b 1 0) s k false false (has_inside s k h) in
    let one : cond {A = ℕ} (has s k) 1 0 ≡ 1 = rw h refl in
    omega (arith, sum, one)

-- ---- what joins and leaves

pub joins : (s : List Bool) (k : ℕ) → k < length s → Joins (members s) k (members (set s k true))
joins s k h =
    record {
      has = Contains-members (set s k true) k (has-insert_same s k h);
      kept = λ y c.
          elim (cases_eq y k) [
            | inl e ↦ rw e (Contains-members (set s k true) k (has-insert_same s k h))
            | inr ne ↦ Contains-members (set s k true) y (has-insert_other s k y ne ∙ has-Contains s y c)
          ];
      only = λ y c.
          elim (cases_eq y k) [
            | inl e ↦ inl e
            | inr ne ↦ inr (Contains-members s y (sym (has-insert_other s k y ne) ∙ has-Contains (set s k true) y c))
          ];
    }

pub leaves : (s : List Bool) (k : ℕ) → has s k ≡ true → ((j : ℕ) → has s j ≡ true → k ≤ j) → Leaves (members s) k (members (set s k false))
leaves s k h least =
    record {
      was = Contains-members s k h;
      least = λ y c. least y (has-Contains s y c);
      kept = λ y c ne. Contains-members (set s k false) y (has_other s k y ne (has-Contains s y c));
      only = λ y c. Contains-members s y (has_less s k y (has-Contains (set s k false) y c)).1;
      shorter =
          let old : length (members s) ≡ ticks s = ap length (sym (from_start s)) ∙ length-members s in
          let new : length (members (set s k false)) ≡ ticks (set s k false) = ap length (sym (from_start (set s k false))) ∙ length-members (set s k false) in
          omega (arith, old, new, ticks_less s k h);
    }

-- A set that has no number has no members.
pub members_none : (s : List Bool) → ((j : ℕ) → ¬ (has s j ≡ true)) → members s ≡ []
members_none s none = empty (members s) (λ i h. none (get_or (members s) i 0) (has-members s i h))
  where
    empty : (xs : List ℕ) → ((i : ℕ) → i < length xs → ⊥) → xs ≡ []
    empty [] f = refl
    empty (x ∷ xs) f = absurd (f 0 (omega arith))

pub members_empty : (n : ℕ) → members (replicate n false) ≡ []
members_empty n = members_none (replicate n false) (λ j h. true≢false (sym h ∙ has-empty n j))

-- An empty set of words is above an empty set.
pub above_empty : (n m : ℕ) → m ≡ n / 64 + 1 → IsAbove (replicate n false) (replicate m false)
above_empty n m e =
    record {
      room = length-replicate m false ∙ e ∙ ap (λ k. k / 64 + 1) (sym (length-replicate n false));
      covers = λ k h. absurd (true≢false (sym h ∙ has-empty n k));
    }

-- ---- the first of a list of members

pub first_least : (s : List Bool) (k : ℕ) (rest : List ℕ) → members_from s 0 ≡ k ∷ rest → (has s k ≡ true) × ((j : ℕ) → has s j ≡ true → k ≤ j)
first_least s k rest e =
    let list : members s ≡ k ∷ rest = sym (from_start s) ∙ e in
    let some : 0 < length (members s) = rw list (omega arith) in
    let first : get_or (members s) 0 0 ≡ k = rw list refl in (
      rw first at (has-members s 0 some),
      λ j h.
          let m = members_complete s j h in
          elim (cases_eq m.0 0) [
            | inl z ↦ let same : get_or (members s) m.0 0 ≡ get_or (members s) 0 0 = ap (λ i. get_or (members s) i 0) z in omega (arith, same, m.2, first)
            | inr later ↦ let up = members_rise s 0 m.0 (omega arith) m.1 in omega (arith, up, m.2, first)
          ],
    )

pub none_left : (s : List Bool) → members_from s 0 ≡ [] → (j : ℕ) → ¬ (has s j ≡ true)
none_left s e j h =
    let list : members s ≡ [] = sym (from_start s) ∙ e in
    let m = members_complete s j h in
    let l : m.0 < length {A = ℕ} [] = rw list at m.1 in
    omega (arith, l)

-- ---- a set, and the set of its words

pub above_more : (lower upper : List Bool) (k : ℕ) → k < length lower → IsAbove lower upper → IsAbove (set lower k true) (set upper (k / 64) true)
above_more lower upper k h a =
    let room : k / 64 < length upper = omega (arith, a.room) in
    record {
      room = omega (arith, length-set upper (k / 64) true, length-set lower k true, a.room);
      covers = λ j hj.
          elim (cases_eq (j / 64) (k / 64)) [
            | inl e ↦ rw e (has-insert_same upper (k / 64) room)
            | inr ne ↦
                let other : j ≢ k = λ e. ne (ap (λ (i : ℕ). i / 64) e) in
                has-insert_other upper (k / 64) (j / 64) ne ∙ a.covers j (sym (has-insert_other lower k j other) ∙ hj)
          ];
    }

pub lower_less : (lower upper : List Bool) (k : ℕ) → IsAbove lower upper → IsAbove (set lower k false) upper
lower_less lower upper k a =
    record {
      room = omega (arith, length-set lower k false, a.room);
      covers = λ j h. a.covers j (has_less lower k j h).1;
    }

pub upper_less : (lower upper : List Bool) (p : ℕ) → ((j : ℕ) → j / 64 ≡ p → has lower j ≡ false) → IsAbove lower upper → IsAbove lower (set upper p false)
upper_less lower upper p none a =
    record {
      room = length-set upper p false ∙ a.room;
      covers = λ j h. has_other upper p (j / 64) (λ e. true≢false (sym h ∙ none j e)) (a.covers j h);
    }

-- The least number in the least word is the least of all.
pub least_of_least : (lower upper : List Bool) (p k : ℕ) → IsAbove lower upper → ((v : ℕ) → has upper v ≡ true → p ≤ v) → k / 64 ≡ p → ((j : ℕ) → j / 64 ≡ p → has lower j ≡ true → k ≤ j) → (j : ℕ) → has lower j ≡ true → k ≤ j
least_of_least lower upper p k a above at within j h =
    let le = above (j / 64) (a.covers j h) in
    elim (cases_eq (j / 64) p) [
      | inl e ↦ within j e h
      | inr ne ↦ omega (arith, le, ne, at)
    ]
