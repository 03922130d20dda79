-- Lists compared element by element.
use Rattle.std.proofs.Common.{◌≡◌, ℕ, zero, suc, ◌+◌, ◌<◌, ◌≤◌, ◌++◌, List, ◌∷◌, [], length, map, take, get_or, Bool, true, false, Some, refl, ap, sym, ◌∙◌, arith}
use Rattle.std.specs.Prelude.{◌↔◌, IsTrue, slice_get}
use Rattle.std.specs.Option.{option_map}
use Rattle.std.proofs.lemmas.List.{length-map, map-append}
use Rattle.std.proofs.lemmas.Option.{slice_get-map, slice_get-get_or}
use Rattle.feature_edges.proofs.NodeLemmas.{take-next}
use Rattle.feature_edges.proofs.Places.{got_same}

pub yes : (P : Type 0) → P → IsTrue true ↔ P
yes P p = ((λ t. p), (λ q. refl))

never : IsTrue false → ⊥
never t = cc

pub no : (P : Type 0) → (P → ⊥) → IsTrue false ↔ P
no P n = ((λ t. absurd (never t)), (λ p. absurd (n p)))

-- a true comparison implies its proposition
pub is_so : (b : Bool) (P : Type 0) → IsTrue b ↔ P → b ≡ true → P
is_so b P h e = h.0 e

pub is_not : (b : Bool) (P : Type 0) → IsTrue b ↔ P → b ≡ false → P → ⊥
is_not b P h e p = never (sym e ∙ h.1 p)

-- the element at a place
pub read : {X : Type 0} (xs : List X) (i : ℕ) (x : X) → i < length xs → x ≡ get_or xs i x → slice_get xs i ≡ Some x
read xs i x l h = slice_get-get_or xs i x l ∙ ap Some (sym h)

pub plain : {X : Type 0} (xs : List X) → map (λ z. z) xs ≡ xs
plain [] = refl
plain (x ∷ xs) = ap (λ z. x ∷ z) (plain xs)

pub take-whole : {X : Type 0} (n : ℕ) (xs : List X) → length xs ≤ n → take n xs ≡ xs
take-whole zero [] h = refl
take-whole zero (x ∷ xs) h = absurd (omega (arith, h))
take-whole (suc n) [] h = refl
take-whole (suc n) (x ∷ xs) h = ap (λ z. x ∷ z) (take-whole n xs (omega (arith, h)))

module _ {X Y : Type 0} (f : X → Y) (xs ys : List X) where
  -- the values of the first `i` elements are equal
  abbrev pub AreSame : ℕ → Type 0
  AreSame i = map f (take i xs) ≡ map f (take i ys)

  next_of : (zs : List X) (i : ℕ) (z : X) → slice_get zs i ≡ Some z → map f (take (i + 1) zs) ≡ map f (take i zs) ++ f z ∷ []
  next_of zs i z h = ap (map f) (take-next zs i z h) ∙ map-append f (take i zs) (z ∷ [])

  pub same_next : (i : ℕ) (x y : X) → slice_get xs i ≡ Some x → slice_get ys i ≡ Some y → f x ≡ f y → AreSame i → AreSame (i + 1)
  same_next i x y a b e h = next_of xs i x a ∙ ap (λ z. z ++ f x ∷ []) h ∙ ap (λ z. map f (take i ys) ++ z ∷ []) e ∙ sym (next_of ys i y b)

  pub same_all : (i : ℕ) → length xs ≤ i → length xs ≡ length ys → AreSame i → map f xs ≡ map f ys
  same_all i l e h = sym (ap (map f) (take-whole i xs l)) ∙ h ∙ ap (map f) (take-whole i ys (omega (arith, l, e)))

  pub apart_at : (i : ℕ) (x y : X) → slice_get xs i ≡ Some x → slice_get ys i ≡ Some y → (f x ≡ f y → ⊥) → map f xs ≡ map f ys → ⊥
  apart_at i x y a b n e = n (got_same (f x) (f y) (sym (slice_get-map f xs i ∙ ap (option_map f) a) ∙ ap (λ z. slice_get z i) e ∙ (slice_get-map f ys i ∙ ap (option_map f) b)))

  pub apart_long : (length xs ≡ length ys → ⊥) → map f xs ≡ map f ys → ⊥
  apart_long n e = n (sym (length-map xs f) ∙ ap length e ∙ length-map ys f)

-- the same for the elements themselves
module _ {X : Type 0} (xs ys : List X) where
  pub plain_all : (i : ℕ) → length xs ≤ i → length xs ≡ length ys → AreSame (λ z. z) xs ys i → xs ≡ ys
  plain_all i l e h = sym (plain xs) ∙ same_all (λ z. z) xs ys i l e h ∙ plain ys

  pub plain_apart : (i : ℕ) (x y : X) → slice_get xs i ≡ Some x → slice_get ys i ≡ Some y → (x ≡ y → ⊥) → xs ≡ ys → ⊥
  plain_apart i x y a b n e = apart_at (λ z. z) xs ys i x y a b n (ap (map (λ z. z)) e)
