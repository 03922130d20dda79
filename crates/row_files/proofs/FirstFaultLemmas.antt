-- The first fault of several items, found item by item from the front.
use Rattle.std.proofs.Common.{◌≡◌, ℕ, ◌+◌, ◌<◌, ◌++◌, List, [], ◌∷◌, Result, Ok, Err, Option, None, Some, find, is_none, length, drop, map, get_or, add-one, drop-cons, cond, sym, ap, ◌∙◌, refl, append_assoc, suc}
use Rattle.std.proofs.lemmas.List.{drop-map}
use Rattle.std.specs.List.{filter_map, cons_option}
use Rattle.std.specs.Option.{option_map_or}
use Rattle.row_files.specs.FirstFault.{each_or}

abbrev pub with_first : {B E : Type 0} → E → Option B → Result (List B) E → Result (List B) E
with_first fault None rest = Err fault
with_first fault (Some x) (Ok xs) = Ok (x ∷ xs)
with_first fault (Some x) (Err e) = Err e

abbrev pub with_front : {B E : Type 0} → List B → Result (List B) E → Result (List B) E
with_front front (Ok rest) = Ok (front ++ rest)
with_front front (Err e) = Err e

one_more : {A B E : Type 0} (fault : A → E) (x : A) (given : Option B) (first : Option A) (rest : List B)
    → with_first (fault x) given (option_map_or (λ y. Err (fault y)) first (Ok rest)) ≡ option_map_or (λ y. Err (fault y)) (cond (is_none given) (Some x) first) (Ok (cons_option given rest))
one_more fault x None first rest = refl
one_more fault x (Some y) None rest = refl
one_more fault x (Some y) (Some z) rest = refl

-- Prepending one item.
pub each_or-cons : {A B E : Type 0} (f : A → Option B) (fault : A → E) (x : A) (xs : List A) → each_or f fault (x ∷ xs) ≡ with_first (fault x) (f x) (each_or f fault xs)
each_or-cons f fault x xs = sym (one_more fault x (f x) (find (λ y. is_none (f y)) xs) (filter_map f xs))

first_moved : {B E : Type 0} (front : List B) (fault : E) (y : B) (rest : Result (List B) E) → with_front front (with_first fault (Some y) rest) ≡ with_front (front ++ y ∷ []) rest
first_moved front fault y (Ok rest) = ap Ok (sym (append_assoc front _ rest))
first_moved front fault y (Err e) = refl

-- If `f` is `None` for the next item, its fault is the result.
pub one_refused : {A B E : Type 0} (f : A → Option B) (fault : A → E) (front : List B) (x : A) (items rest all : List A)
    → with_front front (each_or f fault items) ≡ each_or f fault all → items ≡ x ∷ rest → f x ≡ None → each_or f fault all ≡ Err (fault x)
one_refused f fault front x items rest all given at none =
    sym given ∙ ap (λ ys. with_front front (each_or f fault ys)) at ∙ ap (with_front front) (each_or-cons f fault x rest) ∙ ap (λ r. with_front front (with_first (fault x) r (each_or f fault rest))) none

-- If `f` is `Some` for the next item, the search goes on with the rest.
pub one_given : {A B E : Type 0} (f : A → Option B) (fault : A → E) (front : List B) (x : A) (items rest all : List A) (y : B)
    → with_front front (each_or f fault items) ≡ each_or f fault all → items ≡ x ∷ rest → f x ≡ Some y → with_front (front ++ y ∷ []) (each_or f fault rest) ≡ each_or f fault all
one_given f fault front x items rest all y given at some =
    sym (first_moved front (fault x) y (each_or f fault rest)) ∙ ap (λ r. with_front front (with_first (fault x) r (each_or f fault rest))) (sym some)
    ∙ ap (with_front front) (sym (each_or-cons f fault x rest)) ∙ ap (λ ys. with_front front (each_or f fault ys)) (sym at) ∙ given

-- The search before the first item.
pub none_yet : {A B E : Type 0} (f : A → Option B) (fault : A → E) (all : List A) (r : Result (List B) E) → with_front [] r ≡ r
none_yet f fault all (Ok xs) = refl
none_yet f fault all (Err e) = refl

-- The items of `map f xs` from `i` on begin with that of `x`.
pub drop_map_at : {X Y : Type 0} (f : X → Y) (xs : List X) (i : ℕ) (x : X) → i < length xs → x ≡ get_or xs i x → drop i (map f xs) ≡ f x ∷ drop (i + 1) (map f xs)
drop_map_at f xs i x h e =
    rw (drop-map f i xs, drop-map f (i + 1) xs, add-one, drop-cons xs i x h) (ap (λ y. f y ∷ map f (drop (suc i) xs)) (sym e))
