-- Steps that add to a list, one after the other.
use Rattle.std.proofs.Common.{◌≡◌, ℕ, zero, suc, ◌+◌, ◌<◌, ◌⊎◌, inl, inr, ⊎_elim, List, ◌∷◌, [], ◌++◌, length, refl, ap, sym, subst, arith, Some}
use Rattle.std.specs.Prelude.{Contains, IsPermutation, slice_get, slice_index_or}
use Rattle.std.proofs.lemmas.List.Elements.{Contains-append_left, Contains-append_right, Contains-append_cases}
use Rattle.std.proofs.lemmas.List.Sorted.{Contains-permutation, IsPermutation-sym}
use Rattle.feature_edges.specs.inner.Adds.{Adds, Below}

pub Contains-first : {X : Type 0} (x : X) (xs : List X) → Contains (x ∷ xs) x
Contains-first x xs = (0, omega arith, refl)

pub Contains-later : {X : Type 0} (x : X) (xs : List X) (y : X) → Contains xs y → Contains (x ∷ xs) y
Contains-later x xs y h = (suc h.0, omega arith, h.2)

at_cons : {X : Type 0} (x : X) (xs : List X) (y : X) (k : ℕ) → k < suc (length xs) → slice_index_or (x ∷ xs) k y ≡ y → (x ≡ y) ⊎ Contains xs y
at_cons x xs y zero l e = inl e
at_cons x xs y (suc k) l e = inr (k, omega arith, e)

pub Contains-cases : {X : Type 0} (x : X) (xs : List X) (y : X) → Contains (x ∷ xs) y → (x ≡ y) ⊎ Contains xs y
Contains-cases x xs y h = at_cons x xs y h.0 h.1 h.2

pub Contains-none : {X : Type 0} (x : X) → Contains [] x → ⊥
Contains-none x h = omega (arith, h.1)

-- an element has a place
pub place_of_element : {X : Type 0} (xs : List X) (x : X) → Contains xs x → (k : ℕ) × (slice_get xs k ≡ Some x)
place_of_element [] x h = absurd (Contains-none x h)
place_of_element (y ∷ ys) x h = ⊎_elim
    (λ e. (0, ap Some e))
    (λ e. let r = place_of_element ys x e in (suc r.0, r.1))
    (Contains-cases y ys x h)

pub element_at_place : {X : Type 0} (xs : List X) (k : ℕ) (x : X) → slice_get xs k ≡ Some x → Contains xs x
element_at_place [] k x h = cc
element_at_place (y ∷ ys) zero x h =
    let e : y ≡ x = cc in
    subst (λ z. Contains (y ∷ ys) z) e (Contains-first y ys)
element_at_place (y ∷ ys) (suc k) x h = Contains-later y ys x (element_at_place ys k x h)

pub place_below : {X : Type 0} (xs : List X) (k : ℕ) (x : X) → slice_get xs k ≡ Some x → k < length xs
place_below [] k x h = cc
place_below (y ∷ ys) zero x h = omega arith
place_below (y ∷ ys) (suc k) x h = let l = place_below ys k x h in omega (arith, l)

module _ {X : Type 0} where
  pub Adds-nothing : (P : X → Type 0) (a : List X) → ((x : X) → P x → ⊥) → Adds P a a
  Adds-nothing P a none = record { kept = λ x h. h; added = λ x h. absurd (none x h); nothing_else = λ x h. inl h }

  pub Adds-push : (a : List X) (y : X) → Adds (λ x. x ≡ y) a (a ++ y ∷ [])
  Adds-push a y = record {
    kept = λ x h. Contains-append_left a (y ∷ []) x h;
    added = λ x e. Contains-append_right a (y ∷ []) x (subst (λ z. Contains (z ∷ []) x) e (Contains-first x []));
    nothing_else = λ x h. ⊎_elim (λ e. inl e) (λ e. ⊎_elim (λ i. inr (sym i)) (λ i. absurd (Contains-none x i)) (Contains-cases y [] x e)) (Contains-append_cases a (y ∷ []) x h);
  }

  pub Adds-then : (P Q : X → Type 0) (a b c : List X) → Adds P a b → Adds Q b c → Adds (λ x. P x ⊎ Q x) a c
  Adds-then P Q a b c f s = record {
    kept = λ x h. s.kept x (f.kept x h);
    added = λ x h. ⊎_elim (λ p. s.kept x (f.added x p)) (λ q. s.added x q) h;
    nothing_else = λ x h. ⊎_elim (λ i. ⊎_elim (λ j. inl j) (λ j. inr (inl j)) (f.nothing_else x i)) (λ i. inr (inr i)) (s.nothing_else x h);
  }

  -- the added elements may be permuted
  pub Adds-permuted : (P : X → Type 0) (a b c : List X) → Adds P a b → IsPermutation b c → Adds P a c
  Adds-permuted P a b c f moved = record {
    kept = λ x h. Contains-permutation b c x moved (f.kept x h);
    added = λ x h. Contains-permutation b c x moved (f.added x h);
    nothing_else = λ x h. f.nothing_else x (Contains-permutation c b x (IsPermutation-sym b c moved) h);
  }

  -- the property of the added elements may be replaced by an equivalent one
  pub Adds-as : (P Q : X → Type 0) (a b : List X) → ((x : X) → P x → Q x) → ((x : X) → Q x → P x) → Adds P a b → Adds Q a b
  Adds-as P Q a b f g h = record {
    kept = h.kept;
    added = λ x q. h.added x (g x q);
    nothing_else = λ x i. ⊎_elim (λ e. inl e) (λ e. inr (f x e)) (h.nothing_else x i);
  }

  pub Adds-start : (P : ℕ → X → Type 0) (a : List X) → Adds (Below 0 P) a a
  Adds-start P a = Adds-nothing (Below 0 P) a (λ x h. omega (arith, h.1))

  below_cases : (P : ℕ → X → Type 0) (n : ℕ) (x : X) → Below (n + 1) P x → Below n P x ⊎ P n x
  below_cases P n x h = ⊎_elim (λ l. inl (h.0, l, h.2)) (λ e. inr (subst (λ z. P z x) e h.2)) (split h.0 n h.1)
    where
      split : (k m : ℕ) → k < m + 1 → (k < m) ⊎ (k ≡ m)
      split k m l = grind arith

  -- one more iteration of a loop
  pub Adds-turn : (P : ℕ → X → Type 0) (n : ℕ) (a b c : List X) → Adds (Below n P) a b → Adds (P n) b c → Adds (Below (n + 1) P) a c
  Adds-turn P n a b c f s = Adds-as (λ x. Below n P x ⊎ P n x) (Below (n + 1) P) a c
      (λ x h. ⊎_elim (λ i. (i.0, omega (arith, i.1), i.2)) (λ i. (n, omega arith, i)) h)
      (λ x h. below_cases P n x h)
      (Adds-then (Below n P) (P n) a b c f s)
