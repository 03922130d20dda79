-- Lists at a place.
use Rattle.std.proofs.Common.{◌≡◌, ℕ, zero, suc, ◌+◌, ◌<◌, List, [], ◌∷◌, ◌++◌, Bool, true, false, length, map, drop, get_or, refl, ap, sym, ◌∙◌, arith, cond, ◌&&◌, add-one, drop-cons}
use Rattle.std.specs.Prelude.{Result, Ok, Err, IfOk}
use Rattle.std.specs.List.{list_all, filter, AllByRecursion}
use Rattle.std.proofs.lemmas.List.Folds.{list_all-map}

-- the rest of a list from an item on
pub cut_at : {X : Type 0} (xs : List X) (i : ℕ) (x : X) → i < length xs → x ≡ get_or xs i x → drop i xs ≡ x ∷ drop (i + 1) xs
cut_at xs i x within is = rw (add-one) (drop-cons xs i x within ∙ ap (λ y. y ∷ drop (suc i) xs) (sym is))

both : (a b : Bool) → (a && b) ≡ true → (a ≡ true) × (b ≡ true)
both true b h = (refl, h)
both false b h = cc

-- a test of all elements holds at each place
pub list_all_place : {X : Type 0} (p : X → Bool) (xs : List X) (i : ℕ) (d : X) → list_all p xs ≡ true → i < length xs → p (get_or xs i d) ≡ true
list_all_place p [] i d h within = absurd (omega arith)
list_all_place p (x ∷ xs) zero d h within = (both (p x) (list_all p xs) h).0
list_all_place p (x ∷ xs) (suc i) d h within = list_all_place p xs i d (both (p x) (list_all p xs) h).1 (omega arith)

-- of all mapped elements
pub list_all_mapped : {X Y : Type 0} (f : X → Y) (p : Y → Bool) (xs : List X) (i : ℕ) (x : X) → list_all p (map f xs) ≡ true → i < length xs → x ≡ get_or xs i x → p (f x) ≡ true
list_all_mapped f p xs i x h within is = ap (λ y. p (f y)) is ∙ list_all_place (λ y. p (f y)) xs i x (sym (list_all-map p f xs) ∙ h) within

-- what holds of all holds at each place
pub all_place : {X Y : Type 0} (f : X → Y) (P : Y → Type 0) (xs : List X) (i : ℕ) (d : X) → AllByRecursion P (map f xs) → i < length xs → P (f (get_or xs i d))
all_place f P [] i d h within = absurd (omega arith)
all_place f P (x ∷ xs) zero d h within = h.0
all_place f P (x ∷ xs) (suc i) d h within = all_place f P xs i d h.1 (omega arith)

filtered_more : (p : ℕ → Bool) (x : ℕ) (rest : List ℕ) (b : Bool) → p x ≡ true → list_all p rest ≡ true → list_all p (cond b (x ∷ rest) rest) ≡ true
filtered_more p x rest true e h = ap (λ t. t && list_all p rest) e ∙ h
filtered_more p x rest false e h = h

-- what passes a test in a list passes it in its parts
pub list_all-filter : (p q : ℕ → Bool) (xs : List ℕ) → list_all p xs ≡ true → list_all p (filter q xs) ≡ true
list_all-filter p q [] h = refl
list_all-filter p q (x ∷ xs) h =
    let parts = both (p x) (list_all p xs) h in
    filtered_more p x (filter q xs) (q x) parts.0 (list_all-filter p q xs parts.1)

pub list_all_more : (p : ℕ → Bool) (xs : List ℕ) (x : ℕ) → list_all p xs ≡ true → p x ≡ true → list_all p (xs ++ x ∷ []) ≡ true
list_all_more p [] x h e = ap (λ t. t && true) e
list_all_more p (y ∷ ys) x h e = ap (λ t. t && list_all p (ys ++ x ∷ [])) (both (p y) (list_all p ys) h).0 ∙ list_all_more p ys x (both (p y) (list_all p ys) h).1 e

pub list_all_both : (p : ℕ → Bool) (xs ys : List ℕ) → list_all p xs ≡ true → list_all p ys ≡ true → list_all p (xs ++ ys) ≡ true
list_all_both p [] ys h k = k
list_all_both p (x ∷ xs) ys h k = let parts = both (p x) (list_all p xs) h in ap (λ t. t && list_all p (xs ++ ys)) parts.0 ∙ list_all_both p xs ys parts.1 k

pub if_ok_filtered : {V E : Type 0} (r : Result V E) (items : V → List ℕ) (p q : ℕ → Bool) (xs : List ℕ) → IfOk r (λ v. items v ≡ filter q xs) → list_all p xs ≡ true → IfOk r (λ v. list_all p (items v) ≡ true)
if_ok_filtered (Ok v) items p q xs e h = ap (list_all p) e ∙ list_all-filter p q xs h
if_ok_filtered (Err d) items p q xs e h = tt
