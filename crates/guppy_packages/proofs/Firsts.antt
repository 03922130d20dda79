-- The items that no earlier item is like.
use Rattle.std.proofs.Common.{◌≡◌, List, [], ◌∷◌, ◌++◌, Bool, true, false, cond, ◌||◌, not, refl, ◌∙◌, if◌then◌else◌}
use Rattle.std.specs.Prelude.{filter}
use Rattle.std.specs.List.{list_any}
use Rattle.std.proofs.lemmas.List.{append-nil}
use Rattle.std.proofs.lemmas.List.Elements.{filter-append}
use Rattle.guppy_packages.specs.Graph.{firsts}

module _ {X : Type 0} (like : X → X → Bool) (along : (a b c : X) → like a b ≡ true → like b c ≡ true → like a c ≡ true) where
  -- an item like one that is left out is like an earlier item that is kept
  kept : (d x : X) (ys : List X) → like d x ≡ false → list_any (like d) (filter (λ y. not (like y x)) ys) ≡ list_any (like d) ys
  kept d x [] h = refl
  kept d x (y ∷ ys) h = go (like y x) refl (like d y) refl (kept d x ys h)
    where
      go : (b : Bool) → like y x ≡ b → (c : Bool) → like d y ≡ c → list_any (like d) (filter (λ y. not (like y x)) ys) ≡ list_any (like d) ys
          → list_any (like d) (cond (not b) (y ∷ filter (λ y. not (like y x)) ys) (filter (λ y. not (like y x)) ys)) ≡ c || list_any (like d) ys
      go false e c f more = rw (f, more)
      go true e false f more = more
      go true e true f more =
          let t : like d x ≡ true = along d y x f e in
          cc

  -- one more item
  pub firsts-push : (xs : List X) (d : X) → firsts like (xs ++ d ∷ []) ≡ (if list_any (like d) (firsts like xs) then firsts like xs else firsts like xs ++ d ∷ [])
  firsts-push [] d = refl
  firsts-push (x ∷ xs) d = go (list_any (like d) (firsts like xs)) refl (like d x) refl (firsts-push xs d)
    where
      rest : List X
      rest = filter (λ y. not (like y x)) (firsts like xs)

      go : (a : Bool) → list_any (like d) (firsts like xs) ≡ a → (b : Bool) → like d x ≡ b
          → firsts like (xs ++ d ∷ []) ≡ (if a then firsts like xs else firsts like xs ++ d ∷ [])
          → x ∷ filter (λ y. not (like y x)) (firsts like (xs ++ d ∷ [])) ≡ (if b || list_any (like d) (filter (λ y. not (like y x)) (firsts like xs)) then x ∷ filter (λ y. not (like y x)) (firsts like xs) else x ∷ (filter (λ y. not (like y x)) (firsts like xs) ++ d ∷ []))
      go true e true f more = rw more
      go true e false f more = rw (more, kept d x (firsts like xs) f, e)
      go false e true f more = rw (more, filter-append (λ y. not (like y x)) (firsts like xs) (d ∷ []), f, append-nil (filter (λ y. not (like y x)) (firsts like xs)))
      go false e false f more = rw (more, filter-append (λ y. not (like y x)) (firsts like xs) (d ∷ []), f, kept d x (firsts like xs) f, e)

  -- an item is like one of the firsts if and only if it is like one of all
  pub list_any-firsts : (d : X) (xs : List X) → list_any (like d) (firsts like xs) ≡ list_any (like d) xs
  list_any-firsts d [] = refl
  list_any-firsts d (x ∷ xs) = go (like d x) refl (list_any-firsts d xs)
    where
      go : (b : Bool) → like d x ≡ b → list_any (like d) (firsts like xs) ≡ list_any (like d) xs → b || list_any (like d) (filter (λ y. not (like y x)) (firsts like xs)) ≡ b || list_any (like d) xs
      go true e more = refl
      go false e more = kept d x (firsts like xs) e ∙ more

-- no item is like an earlier one
abbrev pub AreApart : {X : Type 0} → (X → X → Bool) → List X → Type 0
AreApart like [] = Unit {0}
AreApart like (x ∷ xs) = (list_any (λ y. like y x) xs ≡ false) × AreApart like xs

list_any-filter : {X : Type 0} (p q : X → Bool) (xs : List X) → list_any p xs ≡ false → list_any p (filter q xs) ≡ false
list_any-filter p q [] h = refl
list_any-filter p q (x ∷ xs) h = go (p x) refl (q x) h (list_any-filter p q xs)
  where
    go : (b : Bool) → p x ≡ b → (c : Bool) → b || list_any p xs ≡ false → (list_any p xs ≡ false → list_any p (filter q xs) ≡ false) → list_any p (cond c (x ∷ filter q xs) (filter q xs)) ≡ false
    go true e c h more = cc
    go false e true h more = rw e (more h)
    go false e false h more = more h

filtered_away : {X : Type 0} (p : X → Bool) (xs : List X) → list_any p (filter (λ x. not (p x)) xs) ≡ false
filtered_away p [] = refl
filtered_away p (x ∷ xs) = go (p x) refl (filtered_away p xs)
  where
    go : (b : Bool) → p x ≡ b → list_any p (filter (λ y. not (p y)) xs) ≡ false → list_any p (cond (not b) (x ∷ filter (λ y. not (p y)) xs) (filter (λ y. not (p y)) xs)) ≡ false
    go true e more = more
    go false e more = rw e more

AreApart-filter : {X : Type 0} (like : X → X → Bool) (q : X → Bool) (xs : List X) → AreApart like xs → AreApart like (filter q xs)
AreApart-filter like q [] a = tt
AreApart-filter like q (x ∷ xs) a = go (q x) (AreApart-filter like q xs a.1)
  where
    go : (b : Bool) → AreApart like (filter q xs) → AreApart like (cond b (x ∷ filter q xs) (filter q xs))
    go true more = (list_any-filter (λ y. like y x) q xs a.0, more)
    go false more = more

pub AreApart-firsts : {X : Type 0} (like : X → X → Bool) (xs : List X) → AreApart like (firsts like xs)
AreApart-firsts like [] = tt
AreApart-firsts like (x ∷ xs) = (filtered_away (λ y. like y x) (firsts like xs), AreApart-filter like (λ y. not (like y x)) (firsts like xs) (AreApart-firsts like xs))

-- if no item passes, the filtered list is empty
pub filter-none : {X : Type 0} (p : X → Bool) (xs : List X) → list_any p xs ≡ false → filter p xs ≡ []
filter-none p [] h = refl
filter-none p (x ∷ xs) h = go (p x) h (filter-none p xs)
  where
    go : (b : Bool) → b || list_any p xs ≡ false → (list_any p xs ≡ false → filter p xs ≡ []) → cond b (x ∷ filter p xs) (filter p xs) ≡ []
    go true h more = cc
    go false h more = more h
