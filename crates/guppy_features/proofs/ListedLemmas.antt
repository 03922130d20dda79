-- Membership by a test of equality.
use Rattle.std.proofs.Common.{◌≡◌, ◌<◌, ℕ, zero, suc, ◌⊎◌, inl, inr, ⊎_elim, Bool, true, false, ◌||◌, List, [], ◌∷◌, length, map, refl, sym, ◌∙◌, arith}
use Rattle.std.specs.Prelude.{◌↔◌, IsTrue, Contains, slice_index_or}
use Rattle.std.specs.List.{list_any}
use Rattle.guppy_features.specs.Accepted.{SameElements}

or_cases : {A B : Type 0} (b c : Bool) → (IsTrue b ↔ A) → (IsTrue c ↔ B) → (IsTrue (b || c) ↔ A ⊎ B)
or_cases true c p q = (λ _. inl (p.0 refl), λ _. refl)
or_cases false c p q = (λ h. inr (q.0 h), λ o. elim o [ inl a ↦ let clash : false ≡ true = p.1 a in cc | inr b ↦ q.1 b ])

at_front : {X : Type 0} (x : X) (xs : List X) (y : X) (k : ℕ) → k < suc (length xs) → slice_index_or (x ∷ xs) k y ≡ y → (x ≡ y) ⊎ Contains xs y
at_front x xs y zero l e = inl e
at_front x xs y (suc k) l e = inr (k, omega arith, e)

-- an element is the first, or one of the others
contains_cons : {X : Type 0} (x : X) (xs : List X) (y : X) → Contains (x ∷ xs) y ↔ ((x ≡ y) ⊎ Contains xs y)
contains_cons x xs y = (
  (λ h. at_front x xs y h.0 h.1 h.2),
  (λ h. ⊎_elim (λ e. (0, omega arith, e)) (λ later. (suc later.0, omega (arith, later.1), later.2)) h),
)

module _ {X N : Type 0} (f : X → N) where
  -- a test that passes exactly for the value `n` passes for an element if and only if `n` is a value of the
  -- list
  pub listed : (test : X → Bool) (n : N) (xs : List X) → ((x : X) → IsTrue (test x) ↔ f x ≡ n) → IsTrue (list_any test xs) ↔ Contains (map f xs) n
  listed test n [] same = ((λ h. cc), (λ h. let below = h.1 in absurd (omega arith)))
  listed test n (x ∷ xs) same =
      let both = or_cases (test x) (list_any test xs) (same x) (listed test n xs same) in
      let cons = contains_cons (f x) (map f xs) n in
      ((λ h. cons.1 (both.0 h)), (λ h. both.1 (cons.0 h)))

  got : (n : N) (xs : List X) → Contains (map f xs) n → (x : X) × (f x ≡ n)
  got n [] h = let below = h.1 in absurd (omega arith)
  got n (x ∷ xs) h = ⊎_elim (λ e. (x, e)) (λ later. got n xs later) ((contains_cons (f x) (map f xs) n).0 h)

  half : (eq : X → X → Bool) (xs ys : List X) → ((x : X) → list_any (eq x) xs ≡ list_any (eq x) ys) → ((x y : X) → IsTrue (eq x y) ↔ f x ≡ f y) → (n : N) → Contains (map f xs) n → Contains (map f ys) n
  half eq xs ys same good n h =
      let found = got n xs h in
      let test : (y : X) → IsTrue (eq found.0 y) ↔ f y ≡ n = λ y. ((λ e. sym ((good found.0 y).0 e) ∙ found.1), (λ e. (good found.0 y).1 (found.1 ∙ sym e))) in
      (listed (eq found.0) n ys test).0 (sym (same found.0) ∙ (listed (eq found.0) n xs test).1 h)

  -- two lists for which the same tests of equality pass have the same values
  pub same_elements : (eq : X → X → Bool) (xs ys : List X) → ((x : X) → list_any (eq x) xs ≡ list_any (eq x) ys) → ((x y : X) → IsTrue (eq x y) ↔ f x ≡ f y) → SameElements (map f xs) (map f ys)
  same_elements eq xs ys same good n = (half eq xs ys same good n, half eq ys xs (λ x. sym (same x)) good n)
