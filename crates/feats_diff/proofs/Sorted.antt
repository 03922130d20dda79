-- Sorted parts.
use Rattle.std.proofs.Common.{arith, ℕ, suc, ◌<◌, ◌≡◌, false, List, [], ◌∷◌, map, length, IsSorted}
use Rattle.std.specs.Prelude.{slice_index_or}
use Rattle.std.specs.List.{AllByRecursion}
use Rattle.std.specs.Ordering.{is_lt}
use Rattle.std.proofs.lemmas.List.Sorted.{sorted_far, ranks_by}
use Rattle.feats_diff.specs.changes.Orders.{Ascends, part_cmp, part_total}
use Rattle.feats_diff.specs.changes.Views.{part_text}
use Rattle.feats_diff.specs.declared.changes.parts.Part.{Part}

none_less : (x : Part) (xs : List Part) → ((j : ℕ) → j < length xs → is_lt (part_cmp (part_text (slice_index_or xs j x)) (part_text x)) ≡ false)
    → AllByRecursion (λ y. is_lt (part_cmp y (part_text x)) ≡ false) (map part_text xs)
none_less x [] h = tt
none_less x (y ∷ ys) h = (h 0 (omega arith), none_less x ys (λ j l. h (suc j) (omega arith)))

up_from : (xs : List Part) → ((i j : ℕ) (d : Part) → i < j → j < length xs → is_lt (part_cmp (part_text (slice_index_or xs j d)) (part_text (slice_index_or xs i d))) ≡ false)
    → Ascends part_cmp (map part_text xs)
up_from [] h = tt
up_from (x ∷ xs) h = (none_less x xs (λ j l. h 0 (suc j) x (omega arith) (omega arith)), up_from xs (λ i j d l m. h (suc i) (suc j) d (omega arith) (omega arith)))

pub ascends : (xs : List Part) → IsSorted (λ x y. part_cmp (part_text x) (part_text y)) xs → Ascends part_cmp (map part_text xs)
ascends xs s = up_from xs (λ i j d l m. sorted_far (λ x y. is_lt (part_cmp (part_text x) (part_text y))) (ranks_by part_total part_text) xs s i j d (omega arith) m)
