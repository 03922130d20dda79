-- The index of a number in a list.
use Rattle.std.proofs.Common.{◌≡◌, ◌∙◌, ℕ, zero, suc, ◌+◌, Bool, true, false, cond, List, [], ◌∷◌, ◌++◌, take, length, Option, Some, None, refl, ap, sym, subst, arith, if◌then◌else◌}
use Rattle.std.specs.Prelude.{◌==◌, position, slice_get}
use Rattle.std.specs.List.{position_from}
use Rattle.std.specs.Option.{option_or}
use Rattle.std.proofs.lemmas.Bool.{eqb-true}
use Rattle.std.proofs.lemmas.Iterator.Adapters.{position_from-zero}
use Rattle.plan_whys.specs.links.Links.{index_of}

-- one more element
from_pushed : {X : Type 0} (test : X → Bool) (o : ℕ) (xs : List X) (x : X) → position_from test o (xs ++ x ∷ []) ≡ option_or (position_from test o xs) (if test x then Some (o + length xs) else None)
from_pushed test o [] x =
    let same : o ≡ o + 0 = omega arith in
    ap (λ (n : ℕ). if test x then Some n else None) same
from_pushed test o (y ∷ ys) x = go (test y) (from_pushed test (o + 1) ys x)
  where
    go : (b : Bool) → position_from test (o + 1) (ys ++ x ∷ []) ≡ option_or (position_from test (o + 1) ys) (if test x then Some (o + 1 + length ys) else None)
        → cond b (Some o) (position_from test (o + 1) (ys ++ x ∷ [])) ≡ option_or (cond b (Some o) (position_from test (o + 1) ys)) (if test x then Some (o + length (y ∷ ys)) else None)
    go true later = refl
    go false later =
        let same : o + 1 + length ys ≡ o + length (y ∷ ys) = omega arith in
        later ∙ ap (λ (n : ℕ). option_or (position_from test (o + 1) ys) (if test x then Some n else None)) same

pub position_pushed : {X : Type 0} (test : X → Bool) (xs : List X) (x : X) → position test (xs ++ x ∷ []) ≡ option_or (position test xs) (if test x then Some (length xs) else None)
position_pushed test xs x =
    let same : 0 + length xs ≡ length xs = omega arith in
    position_from-zero test (xs ++ x ∷ [])
    ∙ from_pushed test 0 xs x
    ∙ ap (λ (o : Option ℕ). option_or o (if test x then Some (0 + length xs) else None)) (sym (position_from-zero test xs))
    ∙ ap (λ (n : ℕ). option_or (position test xs) (if test x then Some n else None)) same

-- the element at an index
record IsThere {X : Type 0} (test : X → Bool) (xs : List X) (k : ℕ) : Type 0 where
  element : X
  there : slice_get xs k ≡ Some element
  passes : test element ≡ true

by_test : (b : Bool) (o n : ℕ) (p : Option ℕ) (Q : Type 0) → cond b (Some o) p ≡ Some n → (b ≡ true → o ≡ n → Q) → (p ≡ Some n → Q) → Q
by_test true o n p Q h here later = here refl (cc)
by_test false o n p Q h here later = later h

from_there : {X : Type 0} (test : X → Bool) (o n : ℕ) (xs : List X) → position_from test o xs ≡ Some n → (k : ℕ) × (n ≡ o + k) × IsThere test xs k
from_there test o n [] h = cc
from_there test o n (x ∷ xs) h =
    by_test (test x) o n (position_from test (o + 1) xs) ((k : ℕ) × (n ≡ o + k) × IsThere test (x ∷ xs) k) h
    (λ passes same. (0, omega (arith, same), record { element = x; there = refl; passes = passes }))
    (λ later. let r = from_there test (o + 1) n xs later in (suc r.0, omega (arith, r.1), record { element = r.2.element; there = r.2.there; passes = r.2.passes }))

pub there_at : (numbers : List ℕ) (k a : ℕ) → index_of numbers k ≡ Some a → slice_get numbers a ≡ Some k
there_at numbers k a h =
    let r = from_there (λ n. n == k) 0 a numbers (sym (position_from-zero (λ n. n == k) numbers) ∙ h) in
    let place : r.0 ≡ a = omega (arith, r.1) in
    subst (λ m. slice_get numbers m ≡ Some k) place (r.2.there ∙ ap Some (eqb-true r.2.element k r.2.passes))

-- numbers with one index are equal
one_number : (o : Option ℕ) (x y : ℕ) → o ≡ Some x → o ≡ Some y → x ≡ y
one_number o x y a b = cc

pub same_number : (numbers : List ℕ) (x y a : ℕ) → index_of numbers x ≡ Some a → index_of numbers y ≡ Some a → x ≡ y
same_number numbers x y a h i = one_number (slice_get numbers a) x y (there_at numbers x a h) (there_at numbers y a i)

-- the first elements and the next one
pub take_next : {X : Type 0} (xs : List X) (i : ℕ) (x : X) → slice_get xs i ≡ Some x → take (i + 1) xs ≡ take i xs ++ x ∷ []
take_next [] i x at = cc
take_next (y ∷ xs) zero x at = let same : y ≡ x = cc in ap (λ z. z ∷ []) same
take_next (y ∷ xs) (suc i) x at =
    let next : suc (i + 1) ≡ suc i + 1 = omega arith in
    subst (λ m. take m (y ∷ xs) ≡ y ∷ (take i xs ++ x ∷ [])) next (ap (λ l. y ∷ l) (take_next xs i x at))

pub length_taken : {X : Type 0} (xs : List X) (i : ℕ) (x : X) → slice_get xs i ≡ Some x → length (take i xs) ≡ i
length_taken [] i x at = cc
length_taken (y ∷ xs) zero x at = refl
length_taken (y ∷ xs) (suc i) x at = ap suc (length_taken xs i x at)
