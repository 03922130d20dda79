-- Whether and where a list contains a number.
use Rattle.std.proofs.Common.{◌≡◌, ℕ, zero, suc, ◌<◌, ◌⊎◌, inl, inr, List, [], ◌∷◌, length, get_or, ◌∙◌, arith, Contains}
use Rattle.std.proofs.lemmas.Bool.{cases_eq}
use Rattle.std.proofs.lemmas.List.{get_or_default}

-- A list contains `x`, or it doesn't.
pub contains_cases : (xs : List ℕ) (x : ℕ) → Contains xs x ⊎ ¬ Contains xs x
contains_cases [] x = inr (λ c. omega (arith, c.1))
contains_cases (y ∷ ys) x =
    elim (cases_eq y x) [
      | inl e ↦ inl (0, omega arith, e)
      | inr ne ↦
          elim (contains_cases ys x) [
            | inl c ↦ inl (suc c.0, omega (arith, c.1), c.2)
            | inr lacks ↦ inr (λ c. not_later ys x y c.0 c.1 c.2 ne lacks)
          ]
    ]
  where
    not_later : (ys : List ℕ) (x y k : ℕ) → k < length (y ∷ ys) → get_or (y ∷ ys) k x ≡ x → (y ≡ x → ⊥) → ¬ Contains ys x → ⊥
    not_later ys x y zero h e ne lacks = ne e
    not_later ys x y (suc k) h e ne lacks = lacks (k, omega arith, e)

-- A number in a list has a place.
pub place_of : (xs : List ℕ) (v : ℕ) → Contains xs v → (k : ℕ) × (k < length xs) × (get_or xs k 0 ≡ v)
place_of xs v c = (c.0, c.1, get_or_default xs c.0 0 v c.1 ∙ c.2)
