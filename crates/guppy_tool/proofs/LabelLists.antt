-- Ascending lists with the same elements are equal.
use Rattle.std.proofs.Common.{◌≡◌, ℕ, zero, suc, ◌<◌, ◌⊎◌, ⊎_elim, inl, inr, List, [], ◌∷◌, length, Ordering, Less, refl, ap, sym, subst, ◌∙◌, arith}
use Rattle.std.specs.Prelude.{Contains, Some, slice_get, slice_index_or}
use Rattle.std.specs.Cmp.{IsTotalOrder}
use Rattle.std.specs.Ordering.{ordering_reverse}
use Rattle.std.specs.List.{AllByRecursion}
use Rattle.std.specs.List.Sorted.{IsStrictlySortedBy}
use Rattle.std.proofs.lemmas.Map.Keys.{sorted_head, sorted_tail}

first_element : {X : Type 0} (x : X) (xs : List X) → Contains (x ∷ xs) x
first_element x xs = (0, omega arith, refl)

at_cons : {X : Type 0} (x : X) (xs : List X) (y : X) (k : ℕ) → k < suc (length xs) → slice_index_or (x ∷ xs) k y ≡ y → (x ≡ y) ⊎ Contains xs y
at_cons x xs y zero l e = inl e
at_cons x xs y (suc k) l e = inr (k, omega arith, e)

element_cases : {X : Type 0} (x : X) (xs : List X) (y : X) → Contains (x ∷ xs) y → (x ≡ y) ⊎ Contains xs y
element_cases x xs y h = at_cons x xs y h.0 h.1 h.2

later_element : {X : Type 0} (x : X) (xs : List X) (y : X) → Contains xs y → Contains (x ∷ xs) y
later_element x xs y h = let within = h.1 in (suc h.0, omega arith, h.2)

no_element : {X : Type 0} (x : X) → Contains [] x → ⊥
no_element x h = omega (arith, h.1)

-- an element of a list has an index
pub place_of_element : {X : Type 0} (xs : List X) (x : X) → Contains xs x → (k : ℕ) × (slice_get xs k ≡ Some x)
place_of_element [] x h = absurd (no_element x h)
place_of_element (y ∷ ys) x h =
    ⊎_elim
    (λ e. (0, ap Some e))
    (λ e. let r = place_of_element ys x e in (suc r.0, r.1))
    (at_cons y ys x h.0 h.1 h.2)

of_all : {X : Type 0} (P : X → Type 0) (xs : List X) (y : X) → AllByRecursion P xs → Contains xs y → P y
of_all P [] y h c = absurd (no_element y c)
of_all P (x ∷ xs) y h c = ⊎_elim (λ e. subst P e h.0) (λ i. of_all P xs y h.1 i) (element_cases x xs y c)

module _ {K : Type 0} (R : K → K → Ordering) (order : IsTotalOrder R) where
  never_less : (x : K) → R x x ≡ Less → ⊥
  never_less x h =
      let e : Less ≡ ordering_reverse Less = sym h ∙ order.antisymm x x ∙ ap ordering_reverse h in
      cc

  not_both : (x y : K) → R x y ≡ Less → R y x ≡ Less → ⊥
  not_both x y h k = never_less x (order.trans x y x h k)

  after : (x : K) (xs : List K) (y : K) → IsStrictlySortedBy R (x ∷ xs) → Contains xs y → R x y ≡ Less
  after x xs y s c = of_all (λ z. R x z ≡ Less) xs y (sorted_head R x xs s) c

  same_first : (x y : K) (xs ys : List K) → IsStrictlySortedBy R (x ∷ xs) → IsStrictlySortedBy R (y ∷ ys) → Contains (y ∷ ys) x → Contains (x ∷ xs) y → x ≡ y
  same_first x y xs ys s t c d =
      ⊎_elim
      (λ e. sym e)
      (λ i. ⊎_elim (λ e. e) (λ j. absurd (not_both x y (after x xs y s j) (after y ys x t i))) (element_cases x xs y d))
      (element_cases y ys x c)

  in_rest : (x y : K) (xs ys : List K) → IsStrictlySortedBy R (x ∷ xs) → x ≡ y → ((z : K) → Contains (x ∷ xs) z → Contains (y ∷ ys) z) → (z : K) → Contains xs z → Contains ys z
  in_rest x y xs ys s e f z c =
      ⊎_elim
      (λ i. absurd (never_less x (subst (λ v. R x v ≡ Less) (sym (e ∙ i)) (after x xs z s c))))
      (λ i. i)
      (element_cases y ys z (f z (later_element x xs z c)))

  pub one_list : (xs ys : List K) → IsStrictlySortedBy R xs → IsStrictlySortedBy R ys → ((z : K) → Contains xs z → Contains ys z) → ((z : K) → Contains ys z → Contains xs z) → xs ≡ ys
  one_list [] [] s t f g = refl
  one_list [] (y ∷ ys) s t f g = absurd (no_element y (g y (first_element y ys)))
  one_list (x ∷ xs) [] s t f g = absurd (no_element x (f x (first_element x xs)))
  one_list (x ∷ xs) (y ∷ ys) s t f g =
      let e : x ≡ y = same_first x y xs ys s t (f x (first_element x xs)) (g y (first_element y ys)) in
      let rest : xs ≡ ys = one_list xs ys (sorted_tail R x xs s) (sorted_tail R y ys t) (in_rest x y xs ys s e f) (in_rest y x ys xs t (sym e) g) in
      ap (λ z. z ∷ xs) e ∙ ap (λ z. y ∷ z) rest
