-- Members of lists.
use Rattle.std.proofs.Common.{◌≡◌, ⊎_elim, List, [], ◌∷◌, Bool, true, not, Option, None, Some, refl, ap, sym, ◌∙◌, subst}
use Rattle.std.specs.Prelude.{filter, filter_map, flat_map, Contains, IsTrue}
use Rattle.std.specs.List.{cons_option, list_any}
use Rattle.std.specs.Str.{bytes_eq}
use Rattle.std.specs.Cmp.Lexicographic.{bytes_decides}
use Rattle.std.proofs.lemmas.List.Elements.{Contains-append_left, Contains-append_right, Contains-append_cases}
use Rattle.guppy_packages.specs.Graph.{firsts}
use Rattle.guppy_packages.specs.Rows.{Text}
use Rattle.guppy_packages.proofs.Firsts.{list_any-firsts}
use Rattle.feature_core.proofs.AddsLemmas.{Contains-first, Contains-later, Contains-cases, Contains-none, place_of_element, element_at_place}
use Rattle.feature_core.proofs.PartLemmas.{list_any_there, list_any_back}
use Rattle.feature_core.proofs.PushLemmas.{from_filter}

-- a test that holds of a member
pub any_member : {X : Type 0} (p : X → Bool) (xs : List X) (x : X) → Contains xs x → IsTrue (p x) → IsTrue (list_any p xs)
any_member p xs x h e = let q = place_of_element xs x h in list_any_there p xs q.0 x q.1 e

pub record IsMember {X : Type 0} (p : X → Bool) (xs : List X) : Type 0 where
  pub element : X
  pub member : Contains xs element
  pub passes : IsTrue (p element)

pub member_any : {X : Type 0} (p : X → Bool) (xs : List X) → IsTrue (list_any p xs) → IsMember p xs
member_any p xs h =
    let q = list_any_back p xs h in
    record { element = q.element; member = element_at_place xs q.place q.element q.there; passes = q.passes }

-- a text is a member exactly if a member is equal to it
pub text_any : (xs : List Text) (x : Text) → Contains xs x → IsTrue (list_any (bytes_eq x) xs)
text_any xs x h = any_member (bytes_eq x) xs x h ((bytes_decides x x).1 refl)

pub any_text : (xs : List Text) (x : Text) → IsTrue (list_any (bytes_eq x) xs) → Contains xs x
any_text xs x h =
    let q = member_any (bytes_eq x) xs h in
    subst (λ z. Contains xs z) (sym ((bytes_decides x q.element).0 q.passes)) q.member

text_along : (a b c : Text) → bytes_eq a b ≡ true → bytes_eq b c ≡ true → bytes_eq a c ≡ true
text_along a b c h k = (bytes_decides a c).1 ((bytes_decides a b).0 h ∙ (bytes_decides b c).0 k)

-- the first ones are as many texts as all
pub firsts_any : (xs : List Text) (x : Text) → list_any (bytes_eq x) (firsts bytes_eq xs) ≡ list_any (bytes_eq x) xs
firsts_any xs x = list_any-firsts bytes_eq text_along x xs

pub from_firsts : {X : Type 0} (like : X → X → Bool) (xs : List X) (x : X) → Contains (firsts like xs) x → Contains xs x
from_firsts like [] x h = h
from_firsts like (y ∷ ys) x h = ⊎_elim
    (λ e. subst (λ z. Contains (y ∷ ys) z) e (Contains-first y ys))
    (λ i. Contains-later y ys x (from_firsts like ys x (from_filter (λ z. not (like z y)) (firsts like ys) x i).0))
    (Contains-cases y (filter (λ z. not (like z y)) (firsts like ys)) x h)

pub from_flat_map : {X Y : Type 0} (f : X → List Y) (xs : List X) (y : Y) → Contains (flat_map f xs) y → (x : X) × Contains xs x × Contains (f x) y
from_flat_map f [] y h = absurd (Contains-none y h)
from_flat_map f (x ∷ xs) y h = ⊎_elim
    (λ e. (x, Contains-first x xs, e))
    (λ e. let r = from_flat_map f xs y e in (r.0, Contains-later x xs r.0 r.1, r.2))
    (Contains-append_cases (f x) (flat_map f xs) y h)

pub into_flat_map : {X Y : Type 0} (f : X → List Y) (xs : List X) (x : X) (y : Y) → Contains xs x → Contains (f x) y → Contains (flat_map f xs) y
into_flat_map f [] x y h i = absurd (Contains-none x h)
into_flat_map f (z ∷ xs) x y h i = ⊎_elim
    (λ e. Contains-append_left (f z) (flat_map f xs) y (subst (λ v. Contains (f v) y) (sym e) i))
    (λ e. Contains-append_right (f z) (flat_map f xs) y (into_flat_map f xs x y e i))
    (Contains-cases z xs x h)

got_same : {X : Type 0} (x y : X) → ◌≡◌ {A = Option X} (Some x) (Some y) → x ≡ y
got_same x y h = cc

into_some : {Y : Type 0} (o : Option Y) (y : Y) (ys : List Y) → o ≡ Some y → Contains (cons_option o ys) y
into_some None y ys e = cc
into_some (Some z) y ys e = subst (λ v. Contains (z ∷ ys) v) (got_same z y e) (Contains-first z ys)

later_some : {Y : Type 0} (o : Option Y) (y : Y) (ys : List Y) → Contains ys y → Contains (cons_option o ys) y
later_some None y ys h = h
later_some (Some z) y ys h = Contains-later z ys y h

pub into_filter_map : {X Y : Type 0} (f : X → Option Y) (xs : List X) (x : X) (y : Y) → Contains xs x → f x ≡ Some y → Contains (filter_map f xs) y
into_filter_map f [] x y h e = absurd (Contains-none x h)
into_filter_map f (z ∷ xs) x y h e = ⊎_elim
    (λ i. into_some (f z) y (filter_map f xs) (ap f i ∙ e))
    (λ i. later_some (f z) y (filter_map f xs) (into_filter_map f xs x y i e))
    (Contains-cases z xs x h)

-- what is there in a list of options
pub from_some : {X : Type 0} (os : List (Option X)) (x : X) → Contains (filter_map (λ o. o) os) x → Contains os (Some x)
from_some [] x h = absurd (Contains-none x h)
from_some (None ∷ os) x h = Contains-later None os (Some x) (from_some os x h)
from_some (Some y ∷ os) x h = ⊎_elim
    (λ e. subst (λ z. Contains (Some y ∷ os) (Some z)) e (Contains-first (Some y) os))
    (λ i. Contains-later (Some y) os (Some x) (from_some os x i))
    (Contains-cases y (filter_map (λ o. o) os) x h)
