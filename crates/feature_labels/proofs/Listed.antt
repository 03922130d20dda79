-- Lists that are sorted, without repeats and searched, seen through a function of their elements.
use Rattle.std.proofs.Common.{◌≡◌, ℕ, ◌+◌, ◌<◌, ◌≤◌, List, [], ◌∷◌, ◌↔◌, Bool, true, false, Option, Some, None, Result, Ok, Err, IsTrue, length, map, get_or, refl, ap, ◌∙◌, arith, cond, inl, inr}
use Rattle.std.specs.Cmp.{IsTotalOrder}
use Rattle.std.specs.List.{AllByRecursion, Contains, cons_option, dedup, dedup_from, filter_map}
use Rattle.std.specs.List.Sorted.{IsSorted, IsStrictlySortedBy, IsBinarySearchResult, IsSearchInRange, IsNonDecreasingBy}
use Rattle.std.specs.Ordering.{ordering_index}
use Rattle.std.specs.Result.{is_ok}
use Rattle.std.specs.declared.cmp.Ordering.{Ordering}
use Rattle.std.specs.declared.cmp.Ordering.TheVariants.{Less, Equal, Greater}
use Rattle.std.proofs.lemmas.Bool.{cases_lt}
use Rattle.std.proofs.lemmas.Cmp.{tied_itself}
use Rattle.std.proofs.lemmas.List.{get_or-map, length-map}
use Rattle.std.proofs.lemmas.Map.Keys.{Less-from_sorted}
use Rattle.std.proofs.lemmas.List.Sorted.{searchable_from_sorted}

-- repeats may be dropped before or after `f`, if `same` and `like` are one test
dedup_from-map : {X Y : Type 0} (f : X → Y) (same : X → X → Bool) (like : Y → Y → Bool) → ((a b : X) → same a b ≡ like (f a) (f b)) → (k : X) (xs : List X) → map f (dedup_from same k xs) ≡ dedup_from like (f k) (map f xs)
dedup_from-map f same like e k [] = refl
dedup_from-map f same like e k (x ∷ xs) =
    rw (e x k) (elim (like (f x) (f k)) as (λ b. map f (cond b (dedup_from same k xs) (k ∷ dedup_from same x xs)) ≡ cond b (dedup_from like (f k) (map f xs)) (f k ∷ dedup_from like (f x) (map f xs)))
    [ true ↦ dedup_from-map f same like e k xs | false ↦ ap (λ ys. f k ∷ ys) (dedup_from-map f same like e x xs) ])

pub dedup-map : {X Y : Type 0} (f : X → Y) (same : X → X → Bool) (like : Y → Y → Bool) → ((a b : X) → same a b ≡ like (f a) (f b)) → (xs : List X) → map f (dedup same xs) ≡ dedup like (map f xs)
dedup-map f same like e [] = refl
dedup-map f same like e (x ∷ xs) = dedup_from-map f same like e x xs

-- a list sorted through `f` is sorted after `map f`
pub IsSorted-map : {X Y : Type 0} (f : X → Y) (cmp : X → X → Ordering) (R : Y → Y → Ordering) → ((a b : X) → cmp a b ≡ R (f a) (f b)) → (xs : List X) → IsSorted cmp xs → IsSorted R (map f xs)
IsSorted-map f cmp R e [] s = λ k d low high. absurd (omega arith)
IsSorted-map f cmp R e (x ∷ xs) s = λ k d low high.
    let next : k + 1 < length (x ∷ xs) = omega (arith, length-map (x ∷ xs) f) in
    let here : k < length (x ∷ xs) = omega arith in
    rw (get_or-map f (x ∷ xs) k x d here, get_or-map f (x ∷ xs) (k + 1) x d next, ← e (get_or (x ∷ xs) (k + 1) x) (get_or (x ∷ xs) k x)) (s k x low next)

-- a binary search of the elements is one of their images
pub IsBinarySearchResult-map : {X Y : Type 0} (f : X → Y) (ord : X → Ordering) (rank : Y → Ordering) → ((a : X) → ord a ≡ rank (f a)) → (xs : List X) (r : Result ℕ ℕ) → IsSearchInRange r (length xs) → IsBinarySearchResult ord xs r → IsBinarySearchResult rank (map f xs) r
IsBinarySearchResult-map f ord rank e [] (Ok i) below h = absurd (omega arith)
IsBinarySearchResult-map f ord rank e [] (Err i) below h = λ rises. (λ k d low high. absurd (omega arith), λ k d low high. absurd (omega arith))
IsBinarySearchResult-map f ord rank e (x ∷ xs) (Ok i) below h = λ d. rw (get_or-map f (x ∷ xs) i x d below, ← e (get_or (x ∷ xs) i x)) (h x)
IsBinarySearchResult-map f ord rank e (x ∷ xs) (Err i) below h = λ rises.
    let parts = h (λ j k d up in'.
    let here : j < length (x ∷ xs) = omega arith in
    let in_map : k < length (map f (x ∷ xs)) = omega (arith, length-map (x ∷ xs) f) in
    rw (e (get_or (x ∷ xs) j d), e (get_or (x ∷ xs) k d)) (rw (get_or-map f (x ∷ xs) j d (f d) here, get_or-map f (x ∷ xs) k d (f d) in') at (rises j k (f d) up in_map))) in (
      λ k d low high.
          let here : k < length (x ∷ xs) = omega arith in
          rw (get_or-map f (x ∷ xs) k x d here, ← e (get_or (x ∷ xs) k x)) (parts.0 k x low high),
      λ k d low high.
          let here : k < length (x ∷ xs) = omega (arith, length-map (x ∷ xs) f) in
          rw (get_or-map f (x ∷ xs) k x d here, ← e (get_or (x ∷ xs) k x)) (parts.1 k x low here),
    )

-- a strictly sorted list is sorted
pub IsSorted-from_strictly : {K : Type 0} {R : K → K → Ordering} → IsTotalOrder R → (ks : List K) → IsStrictlySortedBy R ks → IsSorted R ks
IsSorted-from_strictly {K} {R} o ks s = λ k d low high.
    let up : R (get_or ks k d) (get_or ks (k + 1) d) ≡ Less = Less-from_sorted R ks k (k + 1) d s (omega arith) (omega arith) in
    rw (o.antisymm (get_or ks (k + 1) d) (get_or ks k d), up) refl

-- a binary search of a strictly sorted list finds exactly the list's elements
pub found_from_search : {K : Type 0} {R : K → K → Ordering} → IsTotalOrder R → ((a b : K) → R a b ≡ Equal → a ≡ b) → (ks : List K) (k : K) → IsStrictlySortedBy R ks → (r : Result ℕ ℕ) → IsSearchInRange r (length ks) → IsBinarySearchResult (λ y. R y k) ks r → IsTrue (is_ok r) ↔ Contains ks k
found_from_search {K} {R} o exact ks k s (Ok i) below h = (λ _. (i, below, exact (get_or ks i k) k (h k)), λ _. refl)
found_from_search {K} {R} o exact ks k s (Err i) below h =
    let rises : IsNonDecreasingBy (λ y. ordering_index (R y k)) ks = searchable_from_sorted o (λ y. y) ks k (IsSorted-from_strictly o ks s) in
    let itself : R k k ≡ Equal = tied_itself o k in
    let parts = h rises in (
      λ e. absurd (cc),
      λ has.
          let at : R (get_or ks has.0 k) k ≡ Equal = ap (λ y. R y k) has.2 ∙ itself in
          absurd (elim (cases_lt has.0 i) [ inl before ↦ (let less : R (get_or ks has.0 k) k ≡ Less = parts.0 has.0 k (omega arith) before in cc) | inr from ↦ (let greater : R (get_or ks has.0 k) k ≡ Greater = parts.1 has.0 k from has.1 in cc) ]),
    )

-- a partial function has at most as many values as there are elements
pub length_filter_map_le : {K X : Type 0} (h : K → Option X) (ks : List K) → length (filter_map h ks) ≤ length ks
length_filter_map_le h [] = omega arith
length_filter_map_le {K} {X} h (k ∷ ks) =
    let rest = length_filter_map_le h ks in
    elim (h k) as (λ o. length (cons_option o (filter_map h ks)) ≤ length (k ∷ ks)) [ None ↦ omega arith | Some x ↦ omega arith ]

-- a partial function that keeps the order maps ascending elements to ascending values
below_kept : {K X : Type 0} (R : K → K → Ordering) (S : X → X → Ordering) (h : K → Option X) → ((a b : K) (x y : X) → h a ≡ Some x → h b ≡ Some y → R a b ≡ Less → S x y ≡ Less) → (k : K) (x : X) → h k ≡ Some x → (ks : List K) → AllByRecursion (λ each. R k each ≡ Less) ks → AllByRecursion (λ each. S x each ≡ Less) (filter_map h ks)
below_kept R S h keeps k x is [] below = tt
below_kept {K} {X} R S h keeps k x is (j ∷ ks) below =
    let rest = below_kept R S h keeps k x is ks below.1 in
    elim (h j) as (λ o. h j ≡ o → AllByRecursion (λ (each : X). S x each ≡ Less) (cons_option o (filter_map h ks))) [ None ↦ λ _. rest | Some y ↦ λ at. (keeps k j x y is at below.0, rest) ] refl

pub IsStrictlySortedBy-filter_map : {K X : Type 0} (R : K → K → Ordering) (S : X → X → Ordering) (h : K → Option X) → ((a b : K) (x y : X) → h a ≡ Some x → h b ≡ Some y → R a b ≡ Less → S x y ≡ Less) → (ks : List K) → IsStrictlySortedBy R ks → IsStrictlySortedBy S (filter_map h ks)
unfolding IsStrictlySortedBy
IsStrictlySortedBy-filter_map R S h keeps [] rises = tt
IsStrictlySortedBy-filter_map {K} {X} R S h keeps (k ∷ ks) rises =
    let rest = IsStrictlySortedBy-filter_map R S h keeps ks rises.1 in
    elim (h k) as (λ o. h k ≡ o → IsStrictlySortedBy S (cons_option o (filter_map h ks))) [ None ↦ λ _. rest | Some x ↦ λ is. (below_kept R S h keeps k x is ks rises.0, rest) ] refl
