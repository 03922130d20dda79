-- Lists without equal items.
use Rattle.std.proofs.Common.{◌≡◌, ℕ, zero, suc, List, [], ◌∷◌, ◌++◌, Bool, true, false, ◌||◌, Some, map, refl, ap, ◌∙◌, subst}
use Rattle.std.specs.Prelude.{slice_get}
use Rattle.std.specs.List.{list_any}
use Rattle.guppy_packages.specs.Tables.{HasNoRepeats}
use Rattle.guppy_packages.proofs.Firsts.{AreApart}
use Rattle.guppy_packages.proofs.Lists.{list_any-map}

-- `P` holds for each item
abbrev pub AllIn : {X : Type 0} → (X → Type 0) → List X → Type 0
AllIn P [] = Unit {0}
AllIn P (x ∷ xs) = P x × AllIn P xs

pub AllIn-at : {X : Type 0} (P : X → Type 0) (xs : List X) → AllIn P xs → (i : ℕ) (x : X) → slice_get xs i ≡ Some x → P x
AllIn-at P [] a i x h = cc
AllIn-at P (y ∷ ys) a zero x h =
    let same : y ≡ x = cc in
    subst P same a.0
AllIn-at P (y ∷ ys) a (suc i) x h = AllIn-at P ys a.1 i x h

pub AllIn-push : {X : Type 0} (P : X → Type 0) (xs : List X) (x : X) → AllIn P xs → P x → AllIn P (xs ++ x ∷ [])
AllIn-push P [] x a p = (p, tt)
AllIn-push P (y ∷ ys) x a p = (a.0, AllIn-push P ys x a.1 p)

pub AllIn-weaker : {X : Type 0} (P Q : X → Type 0) (xs : List X) → ((x : X) → P x → Q x) → AllIn P xs → AllIn Q xs
AllIn-weaker P Q [] f a = tt
AllIn-weaker P Q (x ∷ xs) f a = (f x a.0, AllIn-weaker P Q xs f a.1)

pub list_any-at : {X : Type 0} (p : X → Bool) (xs : List X) (i : ℕ) (x : X) → slice_get xs i ≡ Some x → p x ≡ true → list_any p xs ≡ true
list_any-at p [] i x h t = cc
list_any-at p (y ∷ ys) zero x h t =
    let same : y ≡ x = cc in
    rw (same, t)
list_any-at p (y ∷ ys) (suc i) x h t = rw (list_any-at p ys i x h t) (or_true (p y))
  where
    or_true : (b : Bool) → b || true ≡ true
    or_true true = refl
    or_true false = refl

pub AreApart-no_repeats : {X : Type 0} (like : X → X → Bool) → ((x : X) → like x x ≡ true) → (xs : List X) → AreApart like xs → HasNoRepeats xs
AreApart-no_repeats like self [] a i j x p q = cc
AreApart-no_repeats like self (y ∷ ys) a zero zero x p q = refl
AreApart-no_repeats like self (y ∷ ys) a zero (suc j) x p q =
    let same : y ≡ x = cc in
    let found : list_any (λ z. like z y) ys ≡ true = list_any-at (λ z. like z y) ys j x q (rw same (self x)) in
    cc
AreApart-no_repeats like self (y ∷ ys) a (suc i) zero x p q =
    let same : y ≡ x = cc in
    let found : list_any (λ z. like z y) ys ≡ true = list_any-at (λ z. like z y) ys i x p (rw same (self x)) in
    cc
AreApart-no_repeats like self (y ∷ ys) a (suc i) (suc j) x p q = ap suc (AreApart-no_repeats like self ys a.1 i j x p q)

pub AreApart-map : {X Y : Type 0} (f : X → Y) (like : Y → Y → Bool) (xs : List X) → AreApart (λ x y. like (f x) (f y)) xs → AreApart like (map f xs)
AreApart-map f like [] a = tt
AreApart-map f like (x ∷ xs) a = (list_any-map f (λ y. like y (f x)) xs ∙ a.0, AreApart-map f like xs a.1)

pub list_any-push : {X : Type 0} (p : X → Bool) (xs : List X) (x : X) → list_any p (xs ++ x ∷ []) ≡ list_any p xs || p x
list_any-push p [] x = go (p x)
  where
    go : (b : Bool) → b || false ≡ b
    go true = refl
    go false = refl
list_any-push p (y ∷ ys) x = rw (list_any-push p ys x) (go (p y))
  where
    go : (b : Bool) → b || (list_any p ys || p x) ≡ (b || list_any p ys) || p x
    go true = refl
    go false = refl

pub AreApart-push : {X : Type 0} (like : X → X → Bool) (xs : List X) (x : X) → AreApart like xs → list_any (like x) xs ≡ false → AreApart like (xs ++ x ∷ [])
AreApart-push like [] x a h = (refl, tt)
AreApart-push like (y ∷ ys) x a h = go (like x y) refl h (AreApart-push like ys x a.1)
  where
    go : (b : Bool) → like x y ≡ b → b || list_any (like x) ys ≡ false → (list_any (like x) ys ≡ false → AreApart like (ys ++ x ∷ [])) → AreApart like (y ∷ (ys ++ x ∷ []))
    go true e h more = cc
    go false e h more = (rw (list_any-push (λ z. like z y) ys x, a.0, e), more h)
