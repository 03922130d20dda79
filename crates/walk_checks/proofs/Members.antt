-- The members of a set, as a list.
use Rattle.std.proofs.Common.{◌≡◌, ℕ, zero, suc, ◌+◌, ◌<◌, ◌≤◌, Bool, true, false, ◌&&◌, List, [], ◌∷◌, length, refl, sym, ◌∙◌, subst, ◌≢◌, inl, inr, arith}
use Rattle.std.specs.Prelude.{IsTrue, IsFalse, ◌==◌, filter}
use Rattle.std.specs.List.{range_with_len}
use Rattle.std.proofs.lemmas.Bool.{eqb-true}
use Rattle.std.proofs.lemmas.Bool.Decides.{eqb_tells}
use Rattle.digraphs.specs.Bits.{has, members}
use Rattle.walk_engine.specs.Walks.{is_in}
use Rattle.walk_checks.proofs.Bools.{decide, or_left, or_right, and_both, and_intro}
use Rattle.walk_checks.proofs.Numbers.{has_within}

and_none : (a b : Bool) → IsFalse b → IsFalse (a && b)
and_none true b f = f
and_none false b f = refl

in_filter : (p : ℕ → Bool) (xs : List ℕ) (n : ℕ) → is_in (filter p xs) n ≡ (p n && is_in xs n)
in_filter p [] n = sym (and_none (p n) false refl)
in_filter p (x ∷ xs) n = elim (decide (x == n)) [
  | inl q ↦ let same : x ≡ n = eqb-true x n q in elim (decide (p x)) [
    | inl t ↦ rw (t, q) (sym (and_intro (p n) true (subst (λ (k : ℕ). IsTrue (p k)) same t) refl))
    | inr f ↦ rw (f, q) (in_filter p xs n ∙ let no : IsFalse (p n) = subst (λ (k : ℕ). IsFalse (p k)) same f in rw no refl)
  ]
  | inr q ↦ elim (decide (p x)) [ inl t ↦ rw (t, q) (in_filter p xs n) | inr f ↦ rw (f, q) (in_filter p xs n) ]
]

in_range : (from count n : ℕ) → from ≤ n → n < from + count → IsTrue (is_in (range_with_len from count) n)
in_range from zero n h k = absurd (omega arith)
in_range from (suc count) n h k = elim (eqb_tells from n) [
  | inl p ↦ or_left (from == n) (is_in (range_with_len (from + 1) count) n) p.0
  | inr p ↦ let ne : from ≢ n = p.1 in or_right (from == n) (is_in (range_with_len (from + 1) count) n) (in_range (from + 1) count n (omega arith) (omega arith))
]

pub member_in : (set : List Bool) (n : ℕ) → IsTrue (has set n) → IsTrue (is_in (members set) n)
member_in set n t = in_filter (λ (k : ℕ). has set k) (range_with_len 0 (length set)) n ∙ and_intro (has set n) (is_in (range_with_len 0 (length set)) n) t (in_range 0 (length set) n (omega arith) (omega (arith, has_within set n t)))

pub in_member : (set : List Bool) (n : ℕ) → IsTrue (is_in (members set) n) → IsTrue (has set n)
in_member set n t = (and_both (has set n) (is_in (range_with_len 0 (length set)) n) (sym (in_filter (λ (k : ℕ). has set k) (range_with_len 0 (length set)) n) ∙ t)).0
