-- Searches over mapped lists.
use Rattle.std.proofs.Common.{◌≡◌, ℕ, zero, suc, ◌+◌, ◌<◌, List, [], ◌∷◌, Bool, true, false, cond, not, ◌||◌, Some, None, is_some, ◌∙◌, map, refl, ap, length, drop, get_or, add-one, drop-cons, arith, sym}
use Rattle.std.proofs.lemmas.List.{length-map}
use Rattle.std.proofs.lemmas.Option.{get_or_from_slice_get, slice_get_within}
use Rattle.std.specs.Prelude.{position, slice_get, nat_lt}
use Rattle.std.specs.List.{position_or_len, list_any, list_all}

pub list_any-map : {X Y : Type 0} (f : X → Y) (p : Y → Bool) (xs : List X) → list_any p (map f xs) ≡ list_any (λ x. p (f x)) xs
list_any-map f p [] = refl
list_any-map f p (x ∷ xs) = rw (list_any-map f p xs)

pub position_or_len-map : {X Y : Type 0} (f : X → Y) (p : Y → Bool) (xs : List X) → position_or_len p (map f xs) ≡ position_or_len (λ x. p (f x)) xs
position_or_len-map f p [] = refl
position_or_len-map f p (x ∷ xs) = simp (position_or_len-map f p xs)

pub position-map : {X Y : Type 0} (f : X → Y) (p : Y → Bool) (xs : List X) → position p (map f xs) ≡ position (λ x. p (f x)) xs
position-map f p xs = simp (position_or_len-map f p xs, length-map)

pub list_all-map : {X Y : Type 0} (f : X → Y) (p : Y → Bool) (xs : List X) → list_all p (map f xs) ≡ list_all (λ x. p (f x)) xs
list_all-map f p [] = refl
list_all-map f p (x ∷ xs) = rw (list_all-map f p xs)

pub slice_get-map : {X Y : Type 0} (f : X → Y) (xs : List X) (i : ℕ) (x : X) → slice_get xs i ≡ Some x → slice_get (map f xs) i ≡ Some (f x)
slice_get-map f [] i x h = cc
slice_get-map f (y ∷ ys) zero x h =
    let same : y ≡ x = cc in
    ap (λ z. Some (f z)) same
slice_get-map f (y ∷ ys) (suc i) x h = slice_get-map f ys i x h

-- the items from i on
pub drop_at : {X : Type 0} (xs : List X) (i : ℕ) (x : X) → slice_get xs i ≡ Some x → drop i xs ≡ x ∷ drop (i + 1) xs
drop_at xs i x h = rw (add-one, drop-cons xs i x (slice_get_within xs i x h), get_or_from_slice_get xs i x x h)

-- an item of `map f xs` is `f` of the item at its place
pub map_at : {X Y : Type 0} (f : X → Y) (xs : List X) (k : ℕ) (y : Y) → slice_get (map f xs) k ≡ Some y → (x : X) × (k < length xs) × (get_or xs k x ≡ x) × (y ≡ f x)
map_at f [] k y h = cc
map_at f (x ∷ xs) zero y h =
    let same : y ≡ f x = cc in
    (x, omega arith, refl, same)
map_at f (x ∷ xs) (suc k) y h =
    let more = map_at f xs k y h in
    (more.0, step k (length xs) more.1, more.2, more.3)
  where
    step : (a b : ℕ) → a < b → suc a < suc b
    step a b h = omega arith

-- an item passes if and only if the first that does has a place
is_some-cond : {X : Type 0} (b : Bool) (x : X) → is_some (cond b (Some x) None) ≡ b
is_some-cond true x = refl
is_some-cond false x = refl

before_end : {X : Type 0} (p : X → Bool) (xs : List X) → nat_lt (position_or_len p xs) (length xs) ≡ list_any p xs
before_end p [] = refl
before_end p (x ∷ xs) = go (p x) (before_end p xs)
  where
    first : (n : ℕ) → nat_lt 0 (suc n) ≡ true
    first n = grind arith

    next : (a b : ℕ) → nat_lt (1 + a) (suc b) ≡ nat_lt a b
    next a b = grind arith

    go : (b : Bool) → nat_lt (position_or_len p xs) (length xs) ≡ list_any p xs → nat_lt (cond (not b) (1 + position_or_len p xs) 0) (length (x ∷ xs)) ≡ b || list_any p xs
    go true h = first (length xs)
    go false h = next (position_or_len p xs) (length xs) ∙ h

pub is_some-position : {X : Type 0} (p : X → Bool) (xs : List X) → is_some (position p xs) ≡ list_any p xs
is_some-position p xs = is_some-cond (nat_lt (position_or_len p xs) (length xs)) _ ∙ before_end p xs

-- whether an element was there, by whether it was added
pub was_there : (there added : Bool) → added ≡ not there → there ≡ not added
was_there true added h = ap not (sym h)
was_there false added h = ap not (sym h)
