-- Steps of loops over lists.
use Rattle.std.proofs.Common.{◌≡◌, ℕ, suc, ◌+◌, ◌<◌, List, [], ◌∷◌, ◌++◌, Bool, true, false, cond, length, map, filter, drop, get_or, refl, ap, sym, ◌∙◌, add-one, drop-cons, append_assoc, arith, take, ◌&&◌}
use Rattle.std.specs.Prelude.{◌||◌}
use Rattle.std.specs.List.{AllByRecursion, list_any}
use Rattle.std.proofs.lemmas.List.{map-append}
use Rattle.std.proofs.lemmas.List.Folds.{list_any_more}
use Rattle.cargo_plans.specs.plan_starts.Lists.{joined_from}

-- the rest of a list from an item on
cut_at : {X : Type 0} (xs : List X) (i : ℕ) (x : X) → i < length xs → x ≡ get_or xs i x → drop i xs ≡ x ∷ drop (i + 1) xs
cut_at xs i x within is = rw (add-one) (drop-cons xs i x within ∙ ap (λ y. y ∷ drop (suc i) xs) (sym is))

-- `joined_from` of a list with one more item at its end
pub joined_more : {X Y Z : Type 0} (g : X → Y) (f : ℕ → Y → List Z) (xs : List X) (i : ℕ) (x : X) (all so_far new : List Z) → i < length xs → x ≡ get_or xs i x
    → all ≡ so_far ++ joined_from f i (map g (drop i xs)) → new ≡ so_far ++ f i (g x) → all ≡ new ++ joined_from f (i + 1) (map g (drop (i + 1) xs))
joined_more g f xs i x all so_far new within is so grown =
    let rest = joined_from f (i + 1) (map g (drop (i + 1) xs)) in
    so ∙ ap (λ ys. so_far ++ joined_from f i (map g ys)) (cut_at xs i x within is)
    ∙ sym (append_assoc so_far (f i (g x)) rest)
    ∙ ap (λ z. z ++ rest) (sym grown)

-- the rest of a list from a place on
rest_at : {X : Type 0} (xs : List X) (i : ℕ) → i < length xs → (x : X) × (drop i xs ≡ x ∷ drop (i + 1) xs)
rest_at [] i within = absurd (omega arith)
rest_at (y ∷ ys) i within = (get_or (y ∷ ys) i y, rw (add-one) (drop-cons (y ∷ ys) i y within))

-- one more place, and what is joined for its number
pub numbered_more : {X Y Z : Type 0} (g : X → Y) (f : ℕ → List Z) (xs : List X) (i : ℕ) (all so_far new : List Z) → i < length xs
    → all ≡ so_far ++ joined_from (λ k y. f k) i (map g (drop i xs)) → new ≡ so_far ++ f i → all ≡ new ++ joined_from (λ k y. f k) (i + 1) (map g (drop (i + 1) xs))
numbered_more g f xs i all so_far new within so grown =
    let rest = joined_from (λ k y. f k) (i + 1) (map g (drop (i + 1) xs)) in
    so ∙ ap (λ ys. so_far ++ joined_from (λ k y. f k) i (map g ys)) (rest_at xs i within).1
    ∙ sym (append_assoc so_far (f i) rest)
    ∙ ap (λ z. z ++ rest) (sym grown)

kept_or_not : {Y : Type 0} (b : Bool) (y : Y) (rest : List Y) → cond b (y ∷ rest) rest ≡ cond b (y ∷ []) [] ++ rest
kept_or_not true y rest = refl
kept_or_not false y rest = refl

seen_or_not : {Y Z : Type 0} (h : Y → Z) (b : Bool) (y : Y) (rest : List Y) → map h (cond b (y ∷ rest) rest) ≡ cond b (h y ∷ []) [] ++ map h rest
seen_or_not h true y rest = refl
seen_or_not h false y rest = refl

-- one more item, which may pass the test
pub filtered_more : {X Y : Type 0} (g : X → Y) (test : Y → Bool) (xs : List X) (i : ℕ) (x : X) (all so_far new : List Y) → i < length xs → x ≡ get_or xs i x
    → all ≡ so_far ++ filter test (map g (drop i xs)) → new ≡ so_far ++ cond (test (g x)) (g x ∷ []) [] → all ≡ new ++ filter test (map g (drop (i + 1) xs))
filtered_more g test xs i x all so_far new within is so grown =
    let rest = filter test (map g (drop (i + 1) xs)) in
    so ∙ ap (λ ys. so_far ++ filter test (map g ys)) (cut_at xs i x within is)
    ∙ ap (λ z. so_far ++ z) (kept_or_not (test (g x)) (g x) rest)
    ∙ sym (append_assoc so_far (cond (test (g x)) (g x ∷ []) []) rest)
    ∙ ap (λ z. z ++ rest) (sym grown)

-- the same of what is seen of the items that pass
pub mapped_more : {X Y Z : Type 0} (g : X → Y) (test : Y → Bool) (h : Y → Z) (xs : List X) (i : ℕ) (x : X) (all so_far new : List Z) → i < length xs → x ≡ get_or xs i x
    → all ≡ so_far ++ map h (filter test (map g (drop i xs))) → new ≡ so_far ++ cond (test (g x)) (h (g x) ∷ []) [] → all ≡ new ++ map h (filter test (map g (drop (i + 1) xs)))
mapped_more g test h xs i x all so_far new within is so grown =
    let rest = filter test (map g (drop (i + 1) xs)) in
    so ∙ ap (λ ys. so_far ++ map h (filter test (map g ys))) (cut_at xs i x within is)
    ∙ ap (λ z. so_far ++ z) (seen_or_not h (test (g x)) (g x) rest)
    ∙ sym (append_assoc so_far (cond (test (g x)) (h (g x) ∷ []) []) (map h rest))
    ∙ ap (λ z. z ++ map h rest) (sym grown)

-- what is seen of a list to which an item may be added
pub added : {A B : Type 0} (f : A → B) (xs new : List A) (b : Bool) (x : A) → new ≡ xs ++ cond b (x ∷ []) [] → map f new ≡ map f xs ++ cond b (f x ∷ []) []
added f xs new true x is = ap (map f) is ∙ map-append f xs (x ∷ [])
added f xs new false x is = ap (map f) is ∙ map-append f xs []

pub all_more : {X : Type 0} (P : X → Type 0) (xs : List X) (x : X) → AllByRecursion P xs → P x → AllByRecursion P (xs ++ x ∷ [])
all_more P [] x all one = (one, tt)
all_more P (y ∷ ys) x (first, rest) one = (first, all_more P ys x rest one)

-- one more item that may pass, in a test that has conditions
pub any_more : {X : Type 0} (a b now : Bool) (p : X → Bool) (xs : List X) (i : ℕ) (x d : X) (old new : Bool) → i < length xs → x ≡ get_or xs i d → now ≡ p x
    → old ≡ (a && (b && list_any p (take i xs))) → new ≡ (old || (a && (b && now))) → new ≡ (a && (b && list_any p (take (i + 1) xs)))
any_more a b now p xs i x d old new within is passes was grown =
    grown ∙ ap (λ o. o || (a && (b && now))) was ∙ joined a b (list_any p (take i xs)) now
    ∙ ap (λ t. a && (b && (list_any p (take i xs) || t))) (passes ∙ ap p is)
    ∙ ap (λ t. a && (b && t)) (sym (list_any_more p xs i d within))
  where
    joined : (a b s t : Bool) → ((a && (b && s)) || (a && (b && t))) ≡ (a && (b && (s || t)))
    joined false b s t = refl
    joined true false s t = refl
    joined true true s t = refl
