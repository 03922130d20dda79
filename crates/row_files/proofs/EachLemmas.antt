-- The first item for which `f` is `None`, and the values of `f` if there is none.
use Rattle.std.proofs.Common.{◌≡◌, ℕ, zero, suc, ◌+◌, ◌<◌, Bool, true, false, cond, List, [], ◌∷◌, Result, Ok, Err, Option, None, Some, find, is_none, length, drop, add-one, drop-cons, sym, ap, ◌∙◌, refl, arith}
use Rattle.std.proofs.lemmas.Option.{get_or_from_slice_get, slice_get_within}
use Rattle.std.specs.Prelude.{slice_get}
use Rattle.std.specs.List.{filter_map}
use Rattle.std.specs.Option.{option_map, option_map_or}
use Rattle.row_files.specs.FirstFault.{each_or}
use Rattle.row_files.proofs.FirstFaultLemmas.{with_first, each_or-cons}

-- The item that has this value.
item : {A B : Type 0} (f : A → B) (o : Option A) (y : B) → option_map f o ≡ Some y → (x : A) × (o ≡ Some x) × (f x ≡ y)
item f None y e = absurd (cc)
item f (Some x) y e = let same : f x ≡ y = cc in (x, refl, same)

drop_item : {X : Type 0} (xs : List X) (i : ℕ) (x : X) → slice_get xs i ≡ Some x → drop i xs ≡ x ∷ drop (i + 1) xs
drop_item xs i x h = rw (add-one, drop-cons xs i x (slice_get_within xs i x h), get_or_from_slice_get xs i x x h)

-- A loop at place `i`; before it `f` is `Some` for each item.
module _ {A B E : Type 0} (f : A → Option B) (fault : A → E) (all : List A) (i : ℕ) (before : find (λ x. is_none (f x)) (drop i all) ≡ find (λ x. is_none (f x)) all) where
  -- Whether `f` is `None` for the item at `i`.
  module _ (b : Bool) (given : option_map (λ x. is_none (f x)) (slice_get all i) ≡ Some b) where
    found : (x : A) × (slice_get all i ≡ Some x) × (find (λ y. is_none (f y)) all ≡ cond b (Some x) (find (λ y. is_none (f y)) (drop (i + 1) all)))
    found =
        let at = item (λ x. is_none (f x)) (slice_get all i) b given in
        (at.0, at.1, sym before ∙ ap (find (λ y. is_none (f y))) (drop_item all i at.0 at.1) ∙ ap (λ c. cond c (Some at.0) (find (λ y. is_none (f y)) (drop (i + 1) all))) at.2)

    found_by : (answer : Bool) → b ≡ answer → (x : A) × (slice_get all i ≡ Some x) × (find (λ y. is_none (f y)) all ≡ cond answer (Some x) (find (λ y. is_none (f y)) (drop (i + 1) all)))
    found_by answer is = (found.0, found.1, found.2 ∙ ap (λ c. cond c (Some found.0) (find (λ y. is_none (f y)) (drop (i + 1) all))) is)

    pub refused_here : b ≡ true → (x : A) × (slice_get all i ≡ Some x) × (each_or f fault all ≡ Err (fault x))
    refused_here is =
        let first = found_by true is in
        (first.0, first.1, ap (λ o. option_map_or (λ x. Err (fault x)) o (Ok (filter_map f all))) first.2)

    pub passed_here : b ≡ false → find (λ x. is_none (f x)) (drop (i + 1) all) ≡ find (λ x. is_none (f x)) all
    passed_here is = sym (found_by false is).2

first_parts : {B E : Type 0} (fault : E) (given : Option B) (rest : Result (List B) E) (ys : List B) → with_first fault given rest ≡ Ok ys → (y : B) × (zs : List B) × (given ≡ Some y) × (rest ≡ Ok zs) × (ys ≡ y ∷ zs)
first_parts fault None rest ys e = absurd (cc)
first_parts fault (Some y) (Ok zs) ys e = let same : ys ≡ y ∷ zs = cc in (y, zs, refl, refl, same)
first_parts fault (Some y) (Err r) ys e = absurd (cc)

-- The values are as many as the items.
pub each_or-length : {A B E : Type 0} (f : A → Option B) (fault : A → E) (xs : List A) (ys : List B) → each_or f fault xs ≡ Ok ys → length ys ≡ length xs
each_or-length f fault [] ys e = let same : [] ≡ ys = cc in sym (ap length same)
each_or-length f fault (x ∷ xs) ys e =
    let parts = first_parts (fault x) (f x) (each_or f fault xs) ys (sym (each_or-cons f fault x xs) ∙ e) in
    ap length parts.4 ∙ ap suc (each_or-length f fault xs parts.1 parts.3)

-- Each value is at the place of its item.
pub each_or-at : {A B E : Type 0} (f : A → Option B) (fault : A → E) (xs : List A) (ys : List B) (i : ℕ) (r : Option B) → each_or f fault xs ≡ Ok ys → option_map f (slice_get xs i) ≡ Some r → slice_get ys i ≡ r
each_or-at f fault [] ys i r e given = absurd (cc)
each_or-at f fault (x ∷ xs) ys zero r e given =
    let parts = first_parts (fault x) (f x) (each_or f fault xs) ys (sym (each_or-cons f fault x xs) ∙ e) in
    let same : f x ≡ r = cc in
    ap (λ l. slice_get l 0) parts.4 ∙ sym parts.2 ∙ same
each_or-at f fault (x ∷ xs) ys (suc i) r e given =
    let parts = first_parts (fault x) (f x) (each_or f fault xs) ys (sym (each_or-cons f fault x xs) ∙ e) in
    ap (λ l. slice_get l (suc i)) parts.4 ∙ each_or-at f fault xs parts.1 i r parts.3 given

-- A place below the length has an element.
pub there : {X : Type 0} (xs : List X) (i : ℕ) → i < length xs → slice_get xs i ≡ None → ⊥
there [] i h e = omega arith
there (x ∷ xs) zero h e = cc
there (x ∷ xs) (suc i) h e = there xs i (omega arith) e
