-- Lists of numbers without repeats.
use Rattle.std.proofs.Common.{◌≡◌, ◌≢◌, ℕ, ◌<◌, inl, inr, Bool, true, false, List, [], ◌∷◌, ◌++◌, length, get_or, refl, ap, sym, ◌∙◌, arith, ◌&&◌}
use Rattle.std.specs.Prelude.{Contains, filter, reverse, nat_eq}
use Rattle.std.specs.List.{IsDistinct, range_with_len}
use Rattle.std.specs.Cmp.{unsigned_Decides}
use Rattle.std.specs.Set.{is_member}
use Rattle.std.proofs.lemmas.Bool.{ne_eqb, cases_Bool, and_from, and_parts}
use Rattle.std.proofs.lemmas.Bool.Decides.{same_from_decides}
use Rattle.std.proofs.lemmas.Cmp.{nat_eq_equiv}
use Rattle.std.proofs.lemmas.List.{reverse-append, append-nil, get_or_default}
use Rattle.std.proofs.lemmas.List.Elements.{filter-append, All-filter, All-from_recursion, recursion_from_All}
use Rattle.std.proofs.lemmas.List.FromFn.{get_or-range_with_len, length-range_with_len}
use Rattle.std.proofs.lemmas.Map.Keys.{IsDistinct-from_apart, IsDistinct-cons, IsDistinct-head, IsDistinct-tail}
use Rattle.std.proofs.lemmas.Map.Made.{length-from_same_keys, is_member-filter, is_member-Decides}

-- ---- filters

pub filter_reverse : {X : Type 0} (p : X → Bool) (xs : List X) → filter p (reverse xs) ≡ reverse (filter p xs)
filter_reverse p [] = refl
filter_reverse p (x ∷ xs) =
    let parts : reverse (x ∷ xs) ≡ reverse xs ++ x ∷ [] = reverse-append (x ∷ []) xs in
    let split : filter p (reverse (x ∷ xs)) ≡ filter p (reverse xs) ++ filter p (x ∷ []) = ap (filter p) parts ∙ filter-append p (reverse xs) (x ∷ []) in
    elim (cases_Bool (p x)) [
      | inl e ↦
          let last : filter p (x ∷ []) ≡ x ∷ [] = rw e refl in
          let joined : reverse (x ∷ filter p xs) ≡ reverse (filter p xs) ++ x ∷ [] = reverse-append (x ∷ []) (filter p xs) in
          let whole : filter p (x ∷ xs) ≡ x ∷ filter p xs = rw e refl in
          split ∙ ap (λ ys. ys ++ filter p (x ∷ [])) (filter_reverse p xs) ∙ ap (λ ys. reverse (filter p xs) ++ ys) last ∙ sym joined ∙ ap reverse (sym whole)
      | inr e ↦
          let last : filter p (x ∷ []) ≡ [] = rw e refl in
          let whole : filter p (x ∷ xs) ≡ filter p xs = rw e refl in
          split ∙ ap (λ ys. ys ++ filter p (x ∷ [])) (filter_reverse p xs) ∙ ap (λ ys. reverse (filter p xs) ++ ys) last ∙ append-nil (reverse (filter p xs)) ∙ ap reverse (sym whole)
    ]

pub distinct_filter : (p : ℕ → Bool) (xs : List ℕ) → IsDistinct nat_eq xs → IsDistinct nat_eq (filter p xs)
distinct_filter p [] h = h
distinct_filter p (x ∷ xs) h =
    let rest = distinct_filter p xs (IsDistinct-tail nat_eq x xs h) in
    elim (cases_Bool (p x)) [
      | inl e ↦ rw e (IsDistinct-cons nat_eq x (filter p xs) (recursion_from_All (λ y. nat_eq x y ≡ false) (filter p xs) (All-filter p (λ y. nat_eq x y ≡ false) xs (All-from_recursion (λ y. nat_eq x y ≡ false) xs (IsDistinct-head nat_eq x xs h)))) rest)
      | inr e ↦ rw e rest
    ]

-- ---- a list of all numbers below n, each once

pub distinct_from_apart : (xs : List ℕ) → ((i j : ℕ) → i < j → j < length xs → get_or xs i 0 ≢ get_or xs j 0) → IsDistinct nat_eq xs
distinct_from_apart xs apart = IsDistinct-from_apart nat_eq xs (λ i j d l h.
    let here = get_or_default xs i d 0 (omega arith) in
    let there = get_or_default xs j d 0 h in
    rw (here, there) (ne_eqb (get_or xs i 0) (get_or xs j 0) (apart i j l h)))

pub distinct_range : (n : ℕ) → IsDistinct nat_eq (range_with_len 0 n)
distinct_range n = distinct_from_apart (range_with_len 0 n) (λ i j l h e.
    omega (arith, e, get_or-range_with_len 0 n i 0 (omega (arith, length-range_with_len 0 n)), get_or-range_with_len 0 n j 0 (omega (arith, length-range_with_len 0 n)), length-range_with_len 0 n))

-- The list has exactly the numbers below `n`.
pub record HasBelow (n : ℕ) (xs : List ℕ) : Type 0 where
  pub every : (v : ℕ) → v < n → Contains xs v
  pub below : (v : ℕ) → Contains xs v → v < n

pub range_has : (n : ℕ) → HasBelow n (range_with_len 0 n)
range_has n = record {
  every = λ v h. (v, omega (arith, length-range_with_len 0 n), omega (arith, get_or-range_with_len 0 n v v h));
  below = λ v h. omega (arith, h.1, h.2, length-range_with_len 0 n, get_or-range_with_len 0 n h.0 v (omega (arith, h.1, length-range_with_len 0 n)));
}

pub same_members : (n : ℕ) (xs ys : List ℕ) → HasBelow n xs → HasBelow n ys → (q : ℕ) → is_member nat_eq xs q ≡ is_member nat_eq ys q
same_members n xs ys a b q =
    let x = is_member-Decides unsigned_Decides xs q in
    let y = is_member-Decides unsigned_Decides ys q in
    same_from_decides {P = q < n} (is_member nat_eq xs q) (is_member nat_eq ys q) (λ t. a.below q (x.0 t), λ h. x.1 (a.every q h)) (λ t. b.below q (y.0 t), λ h. y.1 (b.every q h))

-- In two lists that have each number below `n` once, equally many numbers pass a test.
pub same_count : (p : ℕ → Bool) (n : ℕ) (xs ys : List ℕ) → IsDistinct nat_eq xs → IsDistinct nat_eq ys → HasBelow n xs → HasBelow n ys → length (filter p xs) ≡ length (filter p ys)
same_count p n xs ys dx dy hx hy =
    let alike : (q x : ℕ) → nat_eq q x ≡ true → p q ≡ p x = λ q x e. ap p ((unsigned_Decides q x).0 e) in
    length-from_same_keys nat_eq_equiv (filter p xs) (filter p ys) (distinct_filter p xs dx) (distinct_filter p ys dy)
    (λ q. is_member-filter nat_eq_equiv p q (λ x. alike q x) xs ∙ ap (λ b. b && p q) (same_members n xs ys hx hy q) ∙ sym (is_member-filter nat_eq_equiv p q (λ x. alike q x) ys))

alike : (p : ℕ → Bool) (q x : ℕ) → nat_eq q x ≡ true → p q ≡ p x
alike p q x e = ap p ((unsigned_Decides q x).0 e)

-- ---- what a filter has

pub to_filter : (p : ℕ → Bool) (xs : List ℕ) (v : ℕ) → Contains xs v → p v ≡ true → Contains (filter p xs) v
to_filter p xs v h e = (is_member-Decides unsigned_Decides (filter p xs) v).0 (is_member-filter nat_eq_equiv p v (alike p v) xs ∙ and_from (is_member nat_eq xs v) (p v) ((is_member-Decides unsigned_Decides xs v).1 h) e)

pub from_filter : (p : ℕ → Bool) (xs : List ℕ) (v : ℕ) → Contains (filter p xs) v → Contains xs v × (p v ≡ true)
from_filter p xs v h =
    let parts = and_parts (is_member nat_eq xs v) (p v) (sym (is_member-filter nat_eq_equiv p v (alike p v) xs) ∙ (is_member-Decides unsigned_Decides (filter p xs) v).1 h) in
    ((is_member-Decides unsigned_Decides xs v).0 parts.0, parts.1)
