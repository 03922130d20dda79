-- Elements of lists by index.
use Rattle.std.proofs.Common.{◌≡◌, ◌≢◌, ℕ, zero, suc, ◌+◌, ◌<◌, ◌⊎◌, inl, inr, ⊎_elim, List, [], ◌∷◌, length, map, Bool, true, false, cond, Option, Some, None, refl, ap, sym, ◌∙◌, subst, arith, get_or-set_other, get_or-set_same}
use Rattle.std.specs.Prelude.{Contains, IsTrue, position, slice_get, slice_index_or, slice_set}
use Rattle.std.specs.List.{position_from}
use Rattle.std.specs.Option.{option_map}
use Rattle.std.proofs.lemmas.Bool.Decides.{eqb_tells}
use Rattle.std.proofs.lemmas.Iterator.Adapters.{position_from-zero}
use Rattle.digraphs.specs.Bits.{has}

pub got_same : {X : Type 0} (x y : X) → ◌≡◌ {A = Option X} (Some x) (Some y) → x ≡ y
got_same x y h = cc

pub got_map : {X Y : Type 0} (f : X → Y) (o : Option X) (y : Y) → option_map f o ≡ Some y → (x : X) × (o ≡ Some x) × (f x ≡ y)
got_map f None y h = cc
got_map f (Some x) y h = (x, refl, cc)

first_element : {X : Type 0} (x : X) (xs : List X) → Contains (x ∷ xs) x
first_element x xs = (0, omega arith, refl)

at_cons : {X : Type 0} (x : X) (xs : List X) (y : X) (k : ℕ) → k < suc (length xs) → slice_index_or (x ∷ xs) k y ≡ y → (x ≡ y) ⊎ Contains xs y
at_cons x xs y zero l e = inl e
at_cons x xs y (suc k) l e = inr (k, omega arith, e)

pub element_cases : {X : Type 0} (x : X) (xs : List X) (y : X) → Contains (x ∷ xs) y → (x ≡ y) ⊎ Contains xs y
element_cases x xs y h = at_cons x xs y h.0 h.1 h.2

later_element : {X : Type 0} (x : X) (xs : List X) (y : X) → Contains xs y → Contains (x ∷ xs) y
later_element x xs y h = let within = h.1 in (suc h.0, omega arith, h.2)

no_element : {X : Type 0} (x : X) → Contains [] x → ⊥
no_element x h = omega (arith, h.1)

pub from_map : {X Y : Type 0} (f : X → Y) (xs : List X) (y : Y) → Contains (map f xs) y → (x : X) × (Contains xs x) × (f x ≡ y)
from_map f [] y h = absurd (no_element y h)
from_map f (x ∷ xs) y h = ⊎_elim (λ e. (x, first_element x xs, e)) (λ i. let r = from_map f xs y i in (r.0, later_element x xs r.0 r.1, r.2)) (element_cases (f x) (map f xs) y h)

pub into_map : {X Y : Type 0} (f : X → Y) (xs : List X) (x : X) → Contains xs x → Contains (map f xs) (f x)
into_map f [] x h = absurd (no_element x h)
into_map f (z ∷ xs) x h = ⊎_elim (λ e. subst (λ q. Contains (map f (z ∷ xs)) (f q)) e (first_element (f z) (map f xs))) (λ i. later_element (f z) (map f xs) (f x) (into_map f xs x i)) (element_cases z xs x h)

-- an element of a list has an index, and an index below the length has an element
pub place_of_element : {X : Type 0} (xs : List X) (x : X) → Contains xs x → (k : ℕ) × (slice_get xs k ≡ Some x)
place_of_element [] x h = absurd (omega (arith, h.1))
place_of_element (y ∷ ys) x h =
    ⊎_elim
    (λ e. (0, ap Some e))
    (λ e. let r = place_of_element ys x e in (suc r.0, r.1))
    (at_cons y ys x h.0 h.1 h.2)

pub element_at_place : {X : Type 0} (xs : List X) (k : ℕ) (x : X) → slice_get xs k ≡ Some x → Contains xs x
element_at_place [] k x h = cc
element_at_place (y ∷ ys) zero x h =
    let e : y ≡ x = cc in
    subst (λ z. Contains (y ∷ ys) z) e (first_element y ys)
element_at_place (y ∷ ys) (suc k) x h = let c = element_at_place ys k x h in let within = c.1 in (suc c.0, omega arith, c.2)

pub place_below : {X : Type 0} (xs : List X) (k : ℕ) (x : X) → slice_get xs k ≡ Some x → k < length xs
place_below [] k x h = cc
place_below (y ∷ ys) zero x h = omega arith
place_below (y ∷ ys) (suc k) x h = let l = place_below ys k x h in omega (arith, l)

-- an element that passes the test, with its index
pub record IsPlace {X : Type 0} (test : X → Bool) (xs : List X) (k : ℕ) : Type 0 where
  pub element : X
  pub there : slice_get xs k ≡ Some element
  pub passes : test element ≡ true

by_test : {X : Type 0} (b : Bool) (P : X → Type 0) (x y : X) → P (cond b x y) → ((b ≡ true) × P x) ⊎ ((b ≡ false) × P y)
by_test true P x y h = inl (refl, h)
by_test false P x y h = inr (refl, h)

from_there : {X : Type 0} (test : X → Bool) (o n : ℕ) (xs : List X) → position_from test o xs ≡ Some n → (k : ℕ) × (n ≡ o + k) × IsPlace test xs k
from_there test o n [] h = cc
from_there test o n (x ∷ xs) h =
    ⊎_elim
    (λ e. let s = got_same o n e.1 in (0, omega arith, record { element = x; there = refl; passes = e.0 }))
    (λ e. let r = from_there test (o + 1) n xs e.1 in (suc r.0, omega (arith, r.1), record { element = r.2.element; there = r.2.there; passes = r.2.passes }))
    (by_test (test x) (λ z. z ≡ Some n) (Some o) (position_from test (o + 1) xs) h)

from_missing : {X : Type 0} (test : X → Bool) (o k : ℕ) (xs : List X) (x : X) → position_from test o xs ≡ None → slice_get xs k ≡ Some x → test x ≡ true → ⊥
from_missing test o k [] x h e t = cc
from_missing test o k (y ∷ ys) x h e t =
    ⊎_elim
    (λ i. none_some o i.1)
    (λ i. next k e i (λ j a. from_missing test (o + 1) j ys x i.1 a t))
    (by_test (test y) (λ z. z ≡ None) (Some o) (position_from test (o + 1) ys) h)
  where
    none_some : (o : ℕ) → ◌≡◌ {A = Option ℕ} (Some o) None → ⊥
    none_some o h = cc

    apart : (b : Bool) → b ≡ true → b ≡ false → ⊥
    apart b h i = cc

    next : (k : ℕ) → slice_get (y ∷ ys) k ≡ Some x → (test y ≡ false) × (position_from test (o + 1) ys ≡ None) → ((j : ℕ) → slice_get ys j ≡ Some x → ⊥) → ⊥
    next zero e i more =
        let same : y ≡ x = cc in
        apart (test x) t (sym (ap test same) ∙ i.0)
    next (suc k) e i more = more k e

-- `position` returns the index of an element that passes, and `None` only if no element does
pub position_there : {X : Type 0} (test : X → Bool) (k : ℕ) (xs : List X) → position test xs ≡ Some k → IsPlace test xs k
position_there test k xs h =
    let r = from_there test 0 k xs (sym (position_from-zero test xs) ∙ h) in
    subst (λ z. IsPlace test xs z) (let e : r.0 ≡ k = omega (arith, r.1) in e) r.2

pub position_missing : {X : Type 0} (test : X → Bool) (k : ℕ) (xs : List X) (x : X) → position test xs ≡ None → slice_get xs k ≡ Some x → test x ≡ true → ⊥
position_missing test k xs x h e t = from_missing test 0 k xs x (sym (position_from-zero test xs) ∙ h) e t

-- a set with one more number
pub marked_set : (marks : List Bool) (n : ℕ) → n < length marks → IsTrue (has (slice_set marks n true) n)
marked_set marks n h = rw get_or-set_same refl

pub marked_grows : (marks : List Bool) (n k : ℕ) → n < length marks → IsTrue (has marks k) → IsTrue (has (slice_set marks n true) k)
marked_grows marks n k h t =
    elim (eqb_tells k n) [
      | inl p ↦ subst (λ (j : ℕ). IsTrue (has (slice_set marks n true) j)) (sym p.1) (marked_set marks n h)
      | inr p ↦ let ne : k ≢ n = p.1 in rw get_or-set_other t
    ]

pub marked_cases : (marks : List Bool) (n k : ℕ) → IsTrue (has (slice_set marks n true) k) → (k ≡ n) ⊎ IsTrue (has marks k)
marked_cases marks n k t =
    elim (eqb_tells k n) [
      | inl p ↦ inl p.1
      | inr p ↦ let ne : k ≢ n = p.1 in inr (rw get_or-set_other at t)
    ]
