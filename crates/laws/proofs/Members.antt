-- Members of lists.
use Rattle.std.proofs.Common.{◌≡◌, ◌⊎◌, inl, inr, ⊎_elim, ℕ, zero, suc, ◌+◌, List, [], ◌∷◌, Bool, true, false, Option, None, Some, refl, ap, ◌∙◌, subst, arith, if◌then◌else◌}
use Rattle.std.specs.Prelude.{filter, filter_map, not, Contains, IsTrue, ◌||◌, ◌&&◌}
use Rattle.std.specs.List.{cons_option, list_any}
use Rattle.guppy_packages.specs.Graph.{firsts}
use Rattle.feature_core.proofs.AddsLemmas.{Contains-first, Contains-later, Contains-cases, Contains-none, place_of_element, element_at_place}
use Rattle.feature_core.proofs.PartLemmas.{list_any_there, list_any_back}
use Rattle.feature_core.proofs.PushLemmas.{from_filter}

pub both_true : (a b : Bool) → (a && b) ≡ true → (a ≡ true) × (b ≡ true)
both_true true b h = (refl, h)
both_true false b h = cc

pub either_true : (a b : Bool) → (a || b) ≡ true → (a ≡ true) ⊎ (b ≡ true)
either_true true b h = inl refl
either_true false b h = inr h

pub same_some : {X : Type 0} (x y : X) → ◌≡◌ {A = Option X} (Some x) (Some y) → x ≡ y
same_some x y h = cc

-- a member of a list passes the test
pub any_member : {X : Type 0} (p : X → Bool) (xs : List X) (x : X) → Contains xs x → IsTrue (p x) → IsTrue (list_any p xs)
any_member p xs x h e = let q = place_of_element xs x h in list_any_there p xs q.0 x q.1 e

pub record IsMember {X : Type 0} (p : X → Bool) (xs : List X) : Type 0 where
  pub element : X
  pub member : Contains xs element
  pub passes : IsTrue (p element)

pub member_any : {X : Type 0} (p : X → Bool) (xs : List X) → IsTrue (list_any p xs) → IsMember p xs
member_any p xs h =
    let q = list_any_back p xs h in
    record { element = q.element; member = element_at_place xs q.place q.element q.there; passes = q.passes }

pub from_firsts : {X : Type 0} (like : X → X → Bool) (xs : List X) (x : X) → Contains (firsts like xs) x → Contains xs x
from_firsts like [] x h = h
from_firsts like (y ∷ ys) x h = ⊎_elim
    (λ e. subst (λ z. Contains (y ∷ ys) z) e (Contains-first y ys))
    (λ i. Contains-later y ys x (from_firsts like ys x (from_filter (λ z. not (like z y)) (firsts like ys) x i).0))
    (Contains-cases y (filter (λ z. not (like z y)) (firsts like ys)) x h)

pub from_filter_map : {X Y : Type 0} (f : X → Option Y) (xs : List X) (y : Y) → Contains (filter_map f xs) y → (x : X) × Contains xs x × (f x ≡ Some y)
from_filter_map f [] y h = absurd (Contains-none y h)
from_filter_map {X} {Y} f (x ∷ xs) y h = go (f x) refl h (from_filter_map f xs y)
  where
    later : ((z : X) × Contains xs z × (f z ≡ Some y)) → (z : X) × Contains (x ∷ xs) z × (f z ≡ Some y)
    later r = (r.0, Contains-later x xs r.0 r.1, r.2)

    go : (o : Option Y) → f x ≡ o → Contains (cons_option o (filter_map f xs)) y → (Contains (filter_map f xs) y → (z : X) × Contains xs z × (f z ≡ Some y)) → (z : X) × Contains (x ∷ xs) z × (f z ≡ Some y)
    go None e i more = later (more i)
    go (Some z) e i more = ⊎_elim
        (λ same. (x, Contains-first x xs, e ∙ ap Some same))
        (λ j. later (more j))
        (Contains-cases z (filter_map f xs) y i)

pub number_on : (k m : ℕ) → k + 1 + m ≡ k + suc m
number_on k m = omega arith

pub number_first : (k : ℕ) → k ≡ k + zero
number_first k = omega arith

-- the only member of a list that is empty if the test fails
pub one_if : {Y : Type 0} (b : Bool) (x y : Y) → Contains (if b then x ∷ [] else []) y → (b ≡ true) × (x ≡ y)
one_if true x y h = (refl, ⊎_elim (λ e. e) (λ i. absurd (Contains-none y i)) (Contains-cases x [] y h))
one_if false x y h = absurd (Contains-none y h)
