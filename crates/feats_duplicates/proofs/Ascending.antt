-- Ascending lists of numbers.
use Rattle.std.proofs.Common.{◌≡◌, ◌∙◌, sym, ap, refl, subst, ℕ, ◌+◌, ◌<◌, ◌≤◌, List, [], ◌∷◌, ◌++◌, length, Bool, true, false, cond, ◌&&◌, nat_eq, nat_lt, nat_cmp, Less, inl, inr, IsPermutation, IsSorted, true≢false, arith, eq-eqb, ne_eqb, eqb-true, le-ltb, lt-ltb, eqb}
use Rattle.std.specs.Prelude.{◌||◌, ◌⊎◌}
use Rattle.std.specs.Cmp.{ranks, unsigned_ties}
use Rattle.std.specs.Ordering.{MatchOrdering}
use Rattle.std.specs.List.{AllByRecursion, dedup, list_any}
use Rattle.std.specs.List.Retain.{IsFiltered, DiffersFromLast}
use Rattle.std.specs.List.Sorted.{IsStrictlySortedBy}
use Rattle.std.proofs.lemmas.Bool.{cases_lt}
use Rattle.std.proofs.lemmas.Cmp.{nat_cmp_total, nat_eq_equiv}
use Rattle.std.proofs.lemmas.List.Filters.{dedup_is}
use Rattle.std.proofs.lemmas.List.Kept.{IsStrictlySortedBy-dedup, Contains-dedup_nat, Contains-from_dedup}
use Rattle.std.proofs.lemmas.List.Sorted.{list_any-IsPermutation}
use Rattle.std.proofs.lemmas.Map.Views.{Contains-from_any, list_any-from_Contains}
use Rattle.cargo_plans.specs.plan_starts.Lists.{joined_from}
use Rattle.feats_duplicates.proofs.Sets.{both}

-- `dedup` keeps what is in a list
kept_same : (xs : List ℕ) (q : ℕ) → list_any (nat_eq q) (dedup eqb xs) ≡ list_any (nat_eq q) xs
kept_same xs q =
    both _ _
    (λ h. list_any-from_Contains nat_eq_equiv q xs (Contains-from_dedup eqb xs q (Contains-from_any eqb-true q (dedup eqb xs) h)))
    (λ h. list_any-from_Contains nat_eq_equiv q (dedup eqb xs) (Contains-dedup_nat xs q (Contains-from_any eqb-true q xs h)))

pub once_sorted : (moved kept : List ℕ) → IsSorted nat_cmp moved → IsFiltered (DiffersFromLast eqb) [] moved kept → IsStrictlySortedBy nat_cmp kept
once_sorted moved kept sorted filtered = subst (IsStrictlySortedBy nat_cmp) (sym (dedup_is eqb moved kept filtered)) (IsStrictlySortedBy-dedup nat_cmp_total unsigned_ties moved sorted)

pub once_same : (given moved kept : List ℕ) → IsPermutation given moved → IsFiltered (DiffersFromLast eqb) [] moved kept → (q : ℕ) → list_any (nat_eq q) kept ≡ list_any (nat_eq q) given
once_same given moved kept permuted filtered q =
    ap (list_any (nat_eq q)) (dedup_is eqb moved kept filtered) ∙ kept_same moved q ∙ sym (list_any-IsPermutation (nat_eq q) given moved permuted)

-- what is up to a number below a list isn't in it
not_above : (n : ℕ) (ns : List ℕ) → AllByRecursion (λ y. nat_cmp n y ≡ Less) ns → (q : ℕ) → q ≤ n → list_any (nat_eq q) ns ≡ false
not_above n [] all q low = refl
not_above n (m ∷ ms) (first, rest) q low =
    let up : n < m = subst (λ r. MatchOrdering r (n < m) (n ≡ m) (m < n)) first (ranks n m) in
    ap (λ b. b || list_any (nat_eq q) ms) (ne_eqb q m (λ e. absurd (omega (arith, up, low, e)))) ∙ not_above n ms rest q low

-- the first number is in a list
here : (n : ℕ) (ns : List ℕ) → list_any (nat_eq n) (n ∷ ns) ≡ true
here n ns = ap (λ b. b || list_any (nat_eq n) ns) (eq-eqb n n refl)

-- an ascending list of the numbers from `k` on that pass a test, which are below `end`
module _ (test : ℕ → Bool) (end : ℕ) where
  abbrev Below : ℕ → List ℕ → Type 0
  Below k ns = (q : ℕ) → q < k → list_any (nat_eq q) ns ≡ false

  abbrev From : ℕ → List ℕ → Type 0
  From k ns = (q : ℕ) → k ≤ q → list_any (nat_eq q) ns ≡ (nat_lt q end && test q)

  none_left : (k : ℕ) (ns : List ℕ) → end ≤ k → Below k ns → From k ns → ns ≡ []
  none_left k [] ends low up = refl
  none_left k (n ∷ ns) ends low up = by (cases_lt n k)
    where
      by : (n < k) ⊎ (k ≤ n) → n ∷ ns ≡ []
      by (inl l) = absurd (true≢false (sym (here n ns) ∙ low n l))
      by (inr m) =
          let past : nat_lt n end ≡ false = le-ltb n end (omega (arith, ends, m)) in
          absurd (true≢false (sym (here n ns) ∙ up n m ∙ ap (λ b. b && test n) past))

  first_is : (k n : ℕ) (ns : List ℕ) → AllByRecursion (λ y. nat_cmp n y ≡ Less) ns → Below k (n ∷ ns) → list_any (nat_eq k) (n ∷ ns) ≡ true → n ≡ k
  first_is k n ns above low has = by (cases_lt n k) (cases_lt k n)
    where
      by : (n < k) ⊎ (k ≤ n) → (k < n) ⊎ (n ≤ k) → n ≡ k
      by (inl l) other = absurd (true≢false (sym (here n ns) ∙ low n l))
      by (inr m) (inl l) =
          let apart : nat_eq k n ≡ false = ne_eqb k n (λ e. absurd (omega (arith, l, e))) in
          absurd (true≢false (sym has ∙ ap (λ b. b || list_any (nat_eq k) ns) apart ∙ not_above n ns above k m))
      by (inr m) (inr l) = omega (arith, m, l)

  none_at : (k q : ℕ) (ns : List ℕ) → Below k ns → list_any (nat_eq k) ns ≡ false → q < k + 1 → list_any (nat_eq q) ns ≡ false
  none_at k q ns low out l = by (cases_lt q k)
    where
      by : (q < k) ⊎ (k ≤ q) → list_any (nat_eq q) ns ≡ false
      by (inl h) = low q h
      by (inr h) = let is : q ≡ k = omega (arith, h, l) in subst (λ j. list_any (nat_eq j) ns ≡ false) (sym is) out

  -- what is left of a list after its first number
  rest_is : (k : ℕ) (rest ns : List ℕ) → ((ms : List ℕ) → IsStrictlySortedBy nat_cmp ms → Below (k + 1) ms → From (k + 1) ms → ms ≡ rest)
      → IsStrictlySortedBy nat_cmp ns → Below k ns → From k ns → list_any (nat_eq k) ns ≡ true → ns ≡ k ∷ rest
  unfolding IsStrictlySortedBy
  rest_is k rest [] more sorted low up has = absurd (true≢false (sym has))
  rest_is k rest (n ∷ ms) more (first, after) low up has =
      let is : n ≡ k = first_is k n ms first low has in
      let above : AllByRecursion (λ y. nat_cmp k y ≡ Less) ms = subst (λ j. AllByRecursion (λ y. nat_cmp j y ≡ Less) ms) is first in
      let apart : (q : ℕ) → k + 1 ≤ q → nat_eq q n ≡ false = λ q m. ne_eqb q n (λ e. absurd (omega (arith, m, e, is))) in
      ap (λ j. j ∷ ms) is
      ∙ ap (λ js. k ∷ js) (more ms after (λ q l. not_above k ms above q (omega (arith, l))) (λ q m. ap (λ t. t || list_any (nat_eq q) ms) (sym (apart q m)) ∙ up q (omega (arith, m))))

  -- the next number, if it passes, and the rest of the list
  next : (k : ℕ) (rest ns : List ℕ) → ((ms : List ℕ) → IsStrictlySortedBy nat_cmp ms → Below (k + 1) ms → From (k + 1) ms → ms ≡ rest)
      → IsStrictlySortedBy nat_cmp ns → Below k ns → From k ns → (b : Bool) → list_any (nat_eq k) ns ≡ b → ns ≡ cond b (k ∷ []) [] ++ rest
  next k rest ns more sorted low up false out = more ns sorted (λ q l. none_at k q ns low out l) (λ q m. up q (omega (arith, m)))
  next k rest ns more sorted low up true has = rest_is k rest ns more sorted low up has

  pub listed : {X : Type 0} (xs : List X) (k : ℕ) (ns : List ℕ) → end ≡ k + length xs → IsStrictlySortedBy nat_cmp ns → Below k ns → From k ns → ns ≡ joined_from (λ (q : ℕ) (x : X). cond (test q) (q ∷ []) []) k xs
  listed [] k ns ends sorted low up = none_left k ns (omega (arith, ends)) low up
  listed (x ∷ xs) k ns ends sorted low up =
      let later : end ≡ k + 1 + length xs = ends ∙ omega arith in
      next k _ ns (λ ms. listed xs (k + 1) ms later) sorted low up (test k) (up k (omega arith) ∙ ap (λ t. t && test k) (lt-ltb k end (omega (arith, later))))
