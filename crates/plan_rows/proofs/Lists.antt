-- Lists at a place.
use Rattle.std.proofs.Common.{◌≡◌, ℕ, zero, suc, ◌<◌, ◌⊎◌, inl, inr, ⊎_elim, List, [], ◌∷◌, ◌++◌, Bool, true, false, Option, Some, length, map, get_or, refl, ap, sym, subst, ◌∙◌, arith}
use Rattle.std.specs.Prelude.{◌&&◌, ◌≤◌, None, slice_get, Result, Ok, Err, OnOk, ⊤}
use Rattle.std.specs.Fmt.{decimal}
use Rattle.std.specs.List.{list_all, AllByRecursion}
use Rattle.std.proofs.lemmas.List.{map-append, length-map}
use Rattle.std.proofs.lemmas.Option.{slice_get_read}
use Rattle.guppy_packages.proofs.Lists.{list_all-map, slice_get-map}
use Rattle.cargo_workspaces.specs.Workspaces.{Text, is_within}
use Rattle.plan_rows.specs.IdTexts.{AreDecimals}

got_same : {X : Type 0} (x y : X) → ◌≡◌ {A = Option X} (Some x) (Some y) → x ≡ y
got_same x y h = cc

-- the elements of a list with one more at the end
pub got_next : {X : Type 0} (xs : List X) (x : X) (p : ℕ) (y : X) → slice_get (xs ++ x ∷ []) p ≡ Some y → (slice_get xs p ≡ Some y) ⊎ ((p ≡ length xs) × (x ≡ y))
got_next [] x zero y h = inr (refl, got_same x y h)
got_next [] x (suc p) y h = cc
got_next (z ∷ xs) x zero y h = inl h
got_next (z ∷ xs) x (suc p) y h = ⊎_elim (λ e. inl e) (λ e. inr (ap suc e.0, e.1)) (got_next xs x p y h)

-- one more text
pub decimals_more : (xs : List Text) (t : Text) (n : ℕ) → length xs ≡ n → AreDecimals xs → t ≡ decimal n → AreDecimals (xs ++ t ∷ [])
decimals_more xs t n long all is k u h =
    ⊎_elim (λ e. all k u e) (λ e. sym e.1 ∙ is ∙ ap decimal (sym long ∙ sym e.0)) (got_next xs t k u h)

pub both : (a b : Bool) → (a && b) ≡ true → (a ≡ true) × (b ≡ true)
both true b h = (refl, h)
both false b h = cc

-- a test of all elements holds at each place
pub list_all_place : {X : Type 0} (p : X → Bool) (xs : List X) (i : ℕ) (d : X) → list_all p xs ≡ true → i < length xs → p (get_or xs i d) ≡ true
list_all_place p [] i d h within = absurd (omega arith)
list_all_place p (x ∷ xs) zero d h within = (both (p x) (list_all p xs) h).0
list_all_place p (x ∷ xs) (suc i) d h within = list_all_place p xs i d (both (p x) (list_all p xs) h).1 (omega arith)

-- of all mapped elements
pub list_all_mapped : {X Y : Type 0} (f : X → Y) (p : Y → Bool) (xs : List X) (i : ℕ) (x : X) → list_all p (map f xs) ≡ true → i < length xs → x ≡ get_or xs i x → p (f x) ≡ true
list_all_mapped f p xs i x h within is =
    let at : p (f (get_or xs i x)) ≡ true = list_all_place (λ y. p (f y)) xs i x (sym (list_all-map f p xs) ∙ h) within in
    ap (λ y. p (f y)) is ∙ at

-- what holds of all holds at each place
pub all_place : {X Y : Type 0} (f : X → Y) (P : Y → Type 0) (xs : List X) (i : ℕ) (d : X) → AllByRecursion P (map f xs) → i < length xs → P (f (get_or xs i d))
all_place f P [] i d h within = absurd (omega arith)
all_place f P (x ∷ xs) zero d h within = h.0
all_place f P (x ∷ xs) (suc i) d h within = all_place f P xs i d h.1 (omega arith)

pub decimals_pushed : {X : Type 0} (f : X → Text) (xs : List X) (x : X) (n : ℕ) → length xs ≡ n → AreDecimals (map f xs) → f x ≡ decimal n → AreDecimals (map f (xs ++ x ∷ []))
decimals_pushed f xs x n long all is = subst AreDecimals (sym (map-append f xs (x ∷ []))) (decimals_more (map f xs) (f x) n (length-map xs f ∙ long) all is)

pub decimals_read : {X : Type 0} (f : X → Text) (xs : List X) (k : ℕ) (x : X) → AreDecimals (map f xs) → k < length xs → x ≡ get_or xs k x → f x ≡ decimal k
decimals_read f xs k x all within is = all k (f x) (slice_get-map f xs k x (slice_get_read xs (length xs) k x refl within is))

pub is_within_more : (a b : ℕ) (o : Option ℕ) → a ≤ b → is_within a o ≡ true → is_within b o ≡ true
is_within_more a b None within h = refl
is_within_more a b (Some n) within h = grind arith

-- numbers below a bound are below a larger one
pub all_within_more : (a b : ℕ) (os : List (Option ℕ)) → a ≤ b → list_all (is_within a) os ≡ true → list_all (is_within b) os ≡ true
all_within_more a b [] within h = refl
all_within_more a b (o ∷ os) within h =
    let parts = both (is_within a o) (list_all (is_within a) os) h in
    let first : is_within b o ≡ true = is_within_more a b o within parts.0 in
    let rest : list_all (is_within b) os ≡ true = all_within_more a b os within parts.1 in
    rw (first, rest) refl

-- what follows from a call's success
pub on_ok : {E P Q : Type 0} (r : Result ⊤ E) → OnOk r P → (P → Q) → OnOk r Q
on_ok (Ok x) p f = f p
on_ok (Err e) p f = tt
