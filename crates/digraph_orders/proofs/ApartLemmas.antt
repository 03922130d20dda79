-- Distinct numbers below a bound.
use Rattle.std.proofs.Common.{◌≡◌, ◌≢◌, ℕ, zero, suc, ◌<◌, ◌≤◌, ◌⊎◌, inl, inr, true, false, eqb, List, [], ◌∷◌, length, get_or, sym, ◌∙◌, arith}
use Rattle.std.specs.List.{list_any}
use Rattle.std.proofs.lemmas.Bool.{cases_eq, ne_eqb}
use Rattle.std.proofs.lemmas.Bool.Decides.{eqb_tells}
use Rattle.std.proofs.lemmas.List.{get_or_default}
use Rattle.std.proofs.lemmas.Map.Keys.{IsDistinct-from_apart}
use Rattle.std.proofs.lemmas.Map.Steps.{length-le_from_distinct_below}
use Rattle.digraph_orders.specs.inner.Apart.{AreApart}

-- `v` is at some place below `n`, or at none.
find_at : (xs : List ℕ) (v n : ℕ) → ((k : ℕ) × (k < n) × (get_or xs k 0 ≡ v)) ⊎ ((k : ℕ) → k < n → get_or xs k 0 ≢ v)
find_at xs v zero = inr (λ k h e. omega (arith, h))
find_at xs v (suc n) =
    elim (find_at xs v n) [
      | inl f ↦ inl (f.0, omega (arith, f.1), f.2)
      | inr none ↦
          elim (cases_eq (get_or xs n 0) v) [
            | inl is ↦ inl (n, omega arith, is)
            | inr fails ↦ inr (λ k h e. elim (cases_eq k n) [ inl same ↦ fails (rw same at e) | inr ne ↦ none k (omega arith) e ])
          ]
    ]

any_at : (xs : List ℕ) (q : ℕ) → list_any (λ x. eqb q x) xs ≡ true → (k : ℕ) × (k < length xs) × (get_or xs k 0 ≡ q)
any_at [] q h = absurd (let c : true ≡ false = sym h in cc)
any_at (x ∷ xs) q h =
    elim (eqb_tells q x) [
      | inl t ↦ (0, omega arith, sym t.1)
      | inr t ↦ let h' : list_any (λ x. eqb q x) xs ≡ true = rw t.0 at h in let r = any_at xs q h' in (suc r.0, omega (arith, r.1), r.2)
    ]

pub apart_short : (xs : List ℕ) (n : ℕ) → AreApart xs → ((i : ℕ) → i < length xs → get_or xs i 0 < n) → length xs ≤ n
apart_short xs n apart inside =
    length-le_from_distinct_below xs n
    (IsDistinct-from_apart eqb xs (λ i j d l h.
    ne_eqb (get_or xs i d) (get_or xs j d)
    (λ e. apart i j l h (get_or_default xs i 0 d (omega arith) ∙ e ∙ sym (get_or_default xs j 0 d h)))))
    (λ q any. let k = any_at xs q any in omega (arith, inside k.0 k.1, k.2))

pub more_apart : (x : ℕ) (xs : List ℕ) → AreApart xs → ((k : ℕ) → k < length xs → get_or xs k 0 ≢ x) → AreApart (x ∷ xs)
more_apart x xs apart none zero zero l h = absurd (omega arith)
more_apart x xs apart none zero (suc j) l h = λ e. none j (omega arith) (sym e)
more_apart x xs apart none (suc i) zero l h = absurd (omega arith)
more_apart x xs apart none (suc i) (suc j) l h = apart i j (omega arith) (omega arith)

pub more_inside : (x n : ℕ) (xs : List ℕ) → x < n → ((i : ℕ) → i < length xs → get_or xs i 0 < n) → (i : ℕ) → i < length (x ∷ xs) → get_or (x ∷ xs) i 0 < n
more_inside x n xs lx inside zero h = lx
more_inside x n xs lx inside (suc i) h = inside i (omega arith)

-- `n` distinct numbers below `n` include each of them.
pub apart_whole : (xs : List ℕ) (n : ℕ) → AreApart xs → ((i : ℕ) → i < length xs → get_or xs i 0 < n) → length xs ≡ n → (v : ℕ) → v < n → (k : ℕ) × (k < length xs) × (get_or xs k 0 ≡ v)
apart_whole xs n apart inside long v lv =
    elim (find_at xs v (length xs)) [
      | inl f ↦ (f.0, f.1, f.2)
      | inr none ↦ absurd (omega (arith, long, apart_short (v ∷ xs) n (more_apart v xs apart none) (more_inside v n xs lv inside)))
    ]
