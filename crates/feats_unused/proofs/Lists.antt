-- Lists that are appended.
use Rattle.std.proofs.Common.{◌≡◌, ℕ, suc, ◌+◌, ◌<◌, ◌≤◌, List, [], ◌∷◌, ◌++◌, Bool, true, false, ◌&&◌, cond, filter, flat_map, length, map, take, drop, get_or, ap, refl, sym, ◌∙◌, add-one, drop-cons, append_assoc}
use Rattle.std.specs.Borrow.{Bor}
use Rattle.std.proofs.Math.ListN.{drop_of_length-le}
use Rattle.std.proofs.lemmas.List.{append-nil, map-append, take_more}
use Rattle.cargo_workspaces.specs.Views.{texts}
use Rattle.cargo_workspaces.specs.Workspaces.{PackageText, Text}
use Rattle.feats_unused.specs.Requests.{requests_from, requests_of, RequestText}

-- the rest of a list from an item on
pub cut_at : {X : Type 0} (xs : List X) (i : ℕ) (x : X) → i < length xs → x ≡ get_or xs i x → drop i xs ≡ x ∷ drop (i + 1) xs
cut_at xs i x within is = rw (add-one) (drop-cons xs i x within ∙ ap (λ y. y ∷ drop (suc i) xs) (sym is))

pub cut_here : {X : Type 0} (xs : List X) (i : ℕ) (d : X) → i < length xs → drop i xs ≡ get_or xs i d ∷ drop (i + 1) xs
cut_here xs i d within = rw (add-one) (drop-cons xs i d within)

-- one more package, and what it asks of others
pub requests_more : {X : Type 0} (g : X → PackageText) (xs : List X) (i : ℕ) (x : X) (all so_far new : List RequestText) → i < length xs → x ≡ get_or xs i x
    → all ≡ so_far ++ requests_from i (map g (drop i xs)) → new ≡ so_far ++ requests_of i (g x) → all ≡ new ++ requests_from (i + 1) (map g (drop (i + 1) xs))
requests_more g xs i x all so_far new within is so grown =
    let rest = requests_from (i + 1) (map g (drop (i + 1) xs)) in
    so ∙ ap (λ ys. so_far ++ requests_from i (map g ys)) (cut_at xs i x within is)
    ∙ rw (add-one) (sym (append_assoc so_far (requests_of i (g x)) (requests_from (suc i) (map g (drop (suc i) xs)))))
    ∙ ap (λ z. z ++ rest) (sym grown)

-- one more item, and what is joined for it
pub joined_more : {X Y Z : Type 0} (g : X → Y) (f : Y → List Z) (xs : List X) (i : ℕ) (x : X) (all so_far new : List Z) → i < length xs → x ≡ get_or xs i x
    → all ≡ so_far ++ flat_map f (map g (drop i xs)) → new ≡ so_far ++ f (g x) → all ≡ new ++ flat_map f (map g (drop (i + 1) xs))
joined_more g f xs i x all so_far new within is so grown =
    let rest = flat_map f (map g (drop (i + 1) xs)) in
    so ∙ ap (λ ys. so_far ++ flat_map f (map g ys)) (cut_at xs i x within is)
    ∙ sym (append_assoc so_far (f (g x)) rest)
    ∙ ap (λ z. z ++ rest) (sym grown)

-- what is seen of a list to which an item may be added
pub added : {A B : Type 0} (f : A → B) (xs new : List A) (b : Bool) (x : A) → new ≡ xs ++ cond b (x ∷ []) [] → map f new ≡ map f xs ++ cond b (f x ∷ []) []
added f xs new true x is = ap (map f) is ∙ map-append f xs (x ∷ [])
added f xs new false x is = ap (map f) is ∙ map-append f xs []

-- the texts up to the next one
pub texts_more : (names : List (Bor Text)) (i : ℕ) (d : Bor Text) → i < length names → texts (take i names) ++ (get_or names i d).now ∷ [] ≡ texts (take (i + 1) names)
texts_more names i d within = sym (ap texts (take_more names i d within) ∙ map-append (λ (t : Bor Text). t.now) (take i names) (get_or names i d ∷ []))

-- the same, where the item is read at its place
pub joined_at : {X Y Z : Type 0} (g : X → Y) (f : Y → List Z) (xs : List X) (i : ℕ) (d : X) (all so_far new : List Z) → i < length xs
    → all ≡ so_far ++ flat_map f (map g (drop i xs)) → new ≡ so_far ++ f (g (get_or xs i d)) → all ≡ new ++ flat_map f (map g (drop (i + 1) xs))
joined_at g f xs i d all so_far new within so grown =
    let rest = flat_map f (map g (drop (i + 1) xs)) in
    so ∙ ap (λ ys. so_far ++ flat_map f (map g ys)) (cut_here xs i d within)
    ∙ sym (append_assoc so_far (f (g (get_or xs i d))) rest)
    ∙ ap (λ z. z ++ rest) (sym grown)

-- nothing is left
pub joined_end : {X Y Z : Type 0} (g : X → Y) (f : Y → List Z) (xs : List X) (i : ℕ) (all so_far : List Z) → length xs ≤ i → all ≡ so_far ++ flat_map f (map g (drop i xs)) → so_far ≡ all
joined_end g f xs i all so_far past so = sym (so ∙ ap (λ ys. so_far ++ flat_map f (map g ys)) (drop_of_length-le xs past) ∙ append-nil so_far)

-- one more item, and what is seen of it
pub seen_more : {X Y Z R : Type 0} (g : X → Y) (h : Y → Z) (v : R → Z) (xs : List X) (i : ℕ) (x : X) (all : List Z) (rows new : List R) (r : R) → i < length xs → x ≡ get_or xs i x
    → all ≡ map v rows ++ map h (map g (drop i xs)) → new ≡ rows ++ r ∷ [] → v r ≡ h (g x) → all ≡ map v new ++ map h (map g (drop (i + 1) xs))
seen_more g h v xs i x all rows new r within is so grown same =
    let rest = map h (map g (drop (i + 1) xs)) in
    so ∙ ap (λ ys. map v rows ++ map h (map g ys)) (cut_at xs i x within is)
    ∙ sym (append_assoc (map v rows) (h (g x) ∷ []) rest)
    ∙ ap (λ z. (map v rows ++ z ∷ []) ++ rest) (sym same)
    ∙ ap (λ z. z ++ rest) (sym (ap (map v) grown ∙ map-append v rows (r ∷ [])))

-- an item was appended, for the test holds
pub pushed_if : {X Y : Type 0} (f : X → Y) (xs new : List X) (x : X) (b : Bool) → new ≡ xs ++ x ∷ [] → true ≡ b → map f new ≡ map f xs ++ cond b (f x ∷ []) []
pushed_if f xs new x true is h = ap (map f) is ∙ map-append f xs (x ∷ [])
pushed_if f xs new x false is h = cc

-- nothing was appended, for the test doesn't hold
pub kept_if : {Y : Type 0} (ys : List Y) (y : Y) (b : Bool) → false ≡ b → ys ≡ ys ++ cond b (y ∷ []) []
kept_if ys y true h = cc
kept_if ys y false h = sym (append-nil ys)

seen_or_not : {Y Z : Type 0} (h : Y → Z) (b : Bool) (y : Y) (rest : List Y) → map h (cond b (y ∷ rest) rest) ≡ cond b (h y ∷ []) [] ++ map h rest
seen_or_not h true y rest = refl
seen_or_not h false y rest = refl

seen_both : {Y Z : Type 0} (h : Y → Z) (q : Y → Bool) (b : Bool) (y : Y) (rest : List Y) → map h (filter q (cond b (y ∷ rest) rest)) ≡ cond (b && q y) (h y ∷ []) [] ++ map h (filter q rest)
seen_both h q true y rest = seen_or_not h (q y) y (filter q rest)
seen_both h q false y rest = refl

-- one more item, which may pass two tests
pub filtered_more : {X Y Z : Type 0} (g : X → Y) (p q : Y → Bool) (h : Y → Z) (xs : List X) (i : ℕ) (x : X) (all so_far new : List Z) → i < length xs → x ≡ get_or xs i x
    → all ≡ so_far ++ map h (filter q (filter p (map g (drop i xs)))) → new ≡ so_far ++ cond (p (g x) && q (g x)) (h (g x) ∷ []) []
    → all ≡ new ++ map h (filter q (filter p (map g (drop (i + 1) xs))))
filtered_more g p q h xs i x all so_far new within is so grown =
    let rest = filter p (map g (drop (i + 1) xs)) in
    so ∙ ap (λ ys. so_far ++ map h (filter q (filter p (map g ys)))) (cut_at xs i x within is)
    ∙ ap (λ z. so_far ++ z) (seen_both h q (p (g x)) (g x) rest)
    ∙ sym (append_assoc so_far (cond (p (g x) && q (g x)) (h (g x) ∷ []) []) (map h (filter q rest)))
    ∙ ap (λ z. z ++ map h (filter q rest)) (sym grown)
