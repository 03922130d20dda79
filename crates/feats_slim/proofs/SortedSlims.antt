-- Sorted edits.
use Rattle.std.proofs.Common.{arith, ℕ, suc, ◌<◌, ◌≡◌, ◌∙◌, ap, sym, refl, cond, Bool, true, false, List, [], ◌∷◌, map, filter, length}
use Rattle.std.specs.Prelude.{slice_index_or}
use Rattle.std.specs.List.{AllByRecursion}
use Rattle.std.specs.List.Sorted.{IsSortedBy, IsStable, IsStableBy, ties}
use Rattle.std.specs.Ordering.{is_lt}
use Rattle.std.proofs.lemmas.List.Sorted.{sorted_far, ranks_by}
use Rattle.cargo_manifests.specs.declared.edits.EditPlace.TheVariants as place
use Rattle.cargo_manifests.specs.declared.edits.Without.TheVariants as without
use Rattle.feats_slim.specs.edits.Orders.{Descends, SlimText, slim_cmp, slim_total}
use Rattle.feats_slim.specs.edits.SlimViews.{slim_text}
use Rattle.feats_slim.specs.declared.edits.lost.Slim.{Slim}

-- whether the first comes before the second
abbrev pub before : Slim → Slim → Bool
before x y = is_lt (slim_cmp (slim_text x) (slim_text y))

none_before : (x : Slim) (xs : List Slim) → ((j : ℕ) → j < length xs → before (slice_index_or xs j x) x ≡ false) → AllByRecursion (λ y. is_lt (slim_cmp y (slim_text x)) ≡ false) (map slim_text xs)
none_before x [] h = tt
none_before x (y ∷ ys) h = (h 0 (omega arith), none_before x ys (λ j l. h (suc j) (omega arith)))

down_from : (xs : List Slim) → ((i j : ℕ) (d : Slim) → i < j → j < length xs → before (slice_index_or xs j d) (slice_index_or xs i d) ≡ false) → Descends (map slim_text xs)
down_from [] h = tt
down_from (x ∷ xs) h = (none_before x xs (λ j l. h 0 (suc j) x (omega arith) (omega arith)), down_from xs (λ i j d l m. h (suc i) (suc j) d (omega arith) (omega arith)))

pub descends : (xs : List Slim) → IsSortedBy before xs → Descends (map slim_text xs)
descends xs s = down_from xs (λ i j d l m. sorted_far before (ranks_by slim_total slim_text) xs s i j d (omega arith) m)

kept_or_not : {X Y : Type 0} (f : X → Y) (b : Bool) (x : X) (xs : List X) → cond b (f x ∷ map f xs) (map f xs) ≡ map f (cond b (x ∷ xs) xs)
kept_or_not f true x xs = refl
kept_or_not f false x xs = refl

-- a test of what is seen of items
seen : {X Y : Type 0} (f : X → Y) (test : Y → Bool) (xs : List X) → filter test (map f xs) ≡ map f (filter (λ x. test (f x)) xs)
seen f test [] = refl
seen f test (x ∷ xs) = ap (λ ys. cond (test (f x)) (f x ∷ ys) ys) (seen f test xs) ∙ kept_or_not f (test (f x)) x (filter (λ x. test (f x)) xs)

-- an edit with these numbers
abbrev with_numbers : SlimText → Slim
with_numbers s = record { edit = record { place = place.Declaration 0 0; without = without.Defaults }; packages = s.packages; features = s.features }

pub stays : (xs ys : List Slim) → IsStableBy before xs ys → IsStable slim_cmp (map slim_text xs) (map slim_text ys)
stays xs ys stable = λ s.
    let test = ties (λ x y. is_lt (slim_cmp x y)) s in
    seen slim_text test ys ∙ ap (map slim_text) (stable (with_numbers s)) ∙ sym (seen slim_text test xs)
