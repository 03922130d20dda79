-- Sorted packages.
use Rattle.std.proofs.Common.{arith, ℕ, suc, ◌<◌, ◌≡◌, ◌∙◌, ap, sym, refl, cond, Bool, true, false, List, [], ◌∷◌, map, filter, length}
use Rattle.std.specs.Prelude.{slice_index_or}
use Rattle.std.specs.List.{AllByRecursion}
use Rattle.std.specs.List.Sorted.{IsSortedBy, IsStable, IsStableBy, ties}
use Rattle.std.specs.Ordering.{is_lt}
use Rattle.std.proofs.lemmas.List.Sorted.{sorted_far, ranks_by}
use Rattle.build_summaries.specs.Orders.{Ascends, package_cmp, package_total}
use Rattle.build_summaries.specs.Summaries.{PackageText}
use Rattle.build_summaries.specs.Views.{package_text}
use Rattle.build_summaries.specs.declared.packages.SummaryPackage.{SummaryPackage}

-- whether the first comes before the second
abbrev pub before : SummaryPackage → SummaryPackage → Bool
before x y = is_lt (package_cmp (package_text x) (package_text y))

none_before : (x : SummaryPackage) (xs : List SummaryPackage) → ((j : ℕ) → j < length xs → before (slice_index_or xs j x) x ≡ false) → AllByRecursion (λ y. is_lt (package_cmp y (package_text x)) ≡ false) (map package_text xs)
none_before x [] h = tt
none_before x (y ∷ ys) h = (h 0 (omega arith), none_before x ys (λ j l. h (suc j) (omega arith)))

down_from : (xs : List SummaryPackage) → ((i j : ℕ) (d : SummaryPackage) → i < j → j < length xs → before (slice_index_or xs j d) (slice_index_or xs i d) ≡ false) → Ascends (map package_text xs)
down_from [] h = tt
down_from (x ∷ xs) h = (none_before x xs (λ j l. h 0 (suc j) x (omega arith) (omega arith)), down_from xs (λ i j d l m. h (suc i) (suc j) d (omega arith) (omega arith)))

pub ascends : (xs : List SummaryPackage) → IsSortedBy before xs → Ascends (map package_text xs)
ascends xs s = down_from xs (λ i j d l m. sorted_far before (ranks_by package_total package_text) xs s i j d (omega arith) m)

kept_or_not : {X Y : Type 0} (f : X → Y) (b : Bool) (x : X) (xs : List X) → cond b (f x ∷ map f xs) (map f xs) ≡ map f (cond b (x ∷ xs) xs)
kept_or_not f true x xs = refl
kept_or_not f false x xs = refl

-- a filter by a test of the values that `f` returns
seen : {X Y : Type 0} (f : X → Y) (test : Y → Bool) (xs : List X) → filter test (map f xs) ≡ map f (filter (λ x. test (f x)) xs)
seen f test [] = refl
seen f test (x ∷ xs) = ap (λ ys. cond (test (f x)) (f x ∷ ys) ys) (seen f test xs) ∙ kept_or_not f (test (f x)) x (filter (λ x. test (f x)) xs)

-- the package with this status and name in place of its own
abbrev with_key : SummaryPackage → PackageText → SummaryPackage
with_key w s = record w { name = record { ref_ptr = (0, 0); now = s.name }; status = s.status }

-- the same, where there is a package
stays_with : SummaryPackage → (xs ys : List SummaryPackage) → IsStableBy before xs ys → IsStable package_cmp (map package_text xs) (map package_text ys)
stays_with w xs ys stable = λ s.
    let test = ties (λ x y. is_lt (package_cmp x y)) s in
    seen package_text test ys ∙ ap (map package_text) (stable (with_key w s)) ∙ sym (seen package_text test xs)

pub stays : (xs ys : List SummaryPackage) → IsStableBy before xs ys → IsStable package_cmp (map package_text xs) (map package_text ys)
stays [] [] stable = λ s. refl
stays [] (y ∷ ys) stable = stays_with y [] (y ∷ ys) stable
stays (x ∷ xs) ys stable = stays_with x (x ∷ xs) ys stable
