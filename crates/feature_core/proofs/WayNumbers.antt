use Rattle.std.proofs.Common.{◌≡◌, ◌≢◌, ℕ, zero, suc, ◌+◌, ◌<◌, Bool, true, ◌⊎◌, List, [], ◌∷◌, Some, length, sym, subst, inl, inr, arith, get_or-set_other, get_or-set_same, refl}
use Rattle.std.specs.Prelude.{IsTrue, slice_get, slice_set, ◌==◌}
use Rattle.std.proofs.lemmas.Bool.{eq-eqb}
use Rattle.std.proofs.lemmas.Bool.Decides.{eqb_tells}
use Rattle.digraphs.specs.Bits.{has}
use Rattle.walk_engine.specs.Walks.{Way, numbers_where, is_in}
use Rattle.feature_core.proofs.Answered.{decide, or_left, or_right}

pub marked_set : (marks : List Bool) (n : ℕ) → n < length marks → IsTrue (has (slice_set marks n true) n)
marked_set marks n h = rw get_or-set_same refl

pub marked_grows : (marks : List Bool) (n k : ℕ) → n < length marks → IsTrue (has marks k) → IsTrue (has (slice_set marks n true) k)
marked_grows marks n k h t =
    elim (eqb_tells k n) [
      | inl p ↦ subst (λ (j : ℕ). IsTrue (has (slice_set marks n true) j)) (sym p.1) (marked_set marks n h)
      | inr p ↦ let ne : k ≢ n = p.1 in rw get_or-set_other t
    ]

pub marked_cases : (marks : List Bool) (n k : ℕ) → IsTrue (has (slice_set marks n true) k) → (k ≡ n) ⊎ IsTrue (has marks k)
marked_cases marks n k t =
    elim (eqb_tells k n) [
      | inl p ↦ inl p.1
      | inr p ↦ let ne : k ≢ n = p.1 in inr (rw get_or-set_other at t)
    ]

-- the number of a way that passes
abbrev pub Numbers : (Way → Bool) → ℕ → List Way → ℕ → Type 0
Numbers p first ws e = (i : ℕ) × (e ≡ first + i) × ((w : Way) × (slice_get ws i ≡ Some w) × IsTrue (p w))

number_later : (p : Way → Bool) (first : ℕ) (w : Way) (ws : List Way) (e : ℕ) → Numbers p (suc first) ws e → Numbers p first (w ∷ ws) e
number_later p first w ws e (i, eq, found) = (suc i, omega arith, found)

number_first : (p : Way → Bool) (first : ℕ) (w : Way) (ws : List Way) (k e : ℕ) → IsTrue (p w) → ((j : ℕ) → slice_get (numbers_where p (suc first) ws) j ≡ Some e → Numbers p (suc first) ws e) → slice_get (first ∷ numbers_where p (suc first) ws) k ≡ Some e → Numbers p first (w ∷ ws) e
number_first p first w ws zero e t later h = let q : first ≡ e = cc in (0, omega arith, (w, refl, t))
number_first p first w ws (suc k) e t later h = number_later p first w ws e (later k h)

-- an entry of the list of numbers is the number of a way that passes
pub number_way : (p : Way → Bool) (first : ℕ) (ws : List Way) (k e : ℕ) → slice_get (numbers_where p first ws) k ≡ Some e → Numbers p first ws e
number_way p first [] k e h = absurd (cc)
number_way p first (w ∷ ws) k e h =
    let later = λ (j : ℕ) (q : slice_get (numbers_where p (suc first) ws) j ≡ Some e). number_way p (suc first) ws j e q in
    elim (decide (p w)) [
      | inl t ↦ number_first p first w ws k e t later (rw t at h)
      | inr f ↦ number_later p first w ws e (later k (rw f at h))
    ]

pub is_in_at : (xs : List ℕ) (place e : ℕ) → slice_get xs place ≡ Some e → IsTrue (is_in xs e)
is_in_at [] place e h = absurd (cc)
is_in_at (x ∷ xs) zero e h = let q : x ≡ e = cc in or_left (x == e) (is_in xs e) (eq-eqb x e q)
is_in_at (x ∷ xs) (suc place) e h = or_right (x == e) (is_in xs e) (is_in_at xs place e h)
