-- The names of a set's nodes, by node number.
use Rattle.std.proofs.Common.{◌≡◌, ℕ, zero, suc, ◌+◌, ◌<◌, ◌≤◌, Bool, true, false, cond, List, [], ◌∷◌, length, map, filter, Option, Some, refl, ap, ◌∙◌, subst, arith}
use Rattle.std.specs.Prelude.{slice_get}
use Rattle.std.specs.List.{AllByRecursion, cons_option, enumerate_from, filter_map, range_with_len}
use Rattle.digraphs.specs.Bits.{has, members}
use Rattle.feature_graph.specs.Names.{at_places}

-- the elements found by number equal those found by walking over the list
from : {X : Type 0} (passes : ℕ → Bool) (get : ℕ → Option X) (n : ℕ) (xs : List X) → ((k : ℕ) → get (n + k) ≡ slice_get xs k)
    → filter_map get (filter passes (range_with_len n (length xs))) ≡ map (λ p. p.1) (filter (λ p. passes p.0) (enumerate_from n xs))
from passes get n [] same = refl
from {X} passes get n (x ∷ xs) same =
    let here : get n ≡ Some x = subst (λ z. get z ≡ Some x) (omega arith) (same 0) in
    let later : (k : ℕ) → get (n + 1 + k) ≡ slice_get xs k = λ k. subst (λ z. get z ≡ slice_get xs k) (omega arith) (same (suc k)) in
    let rest = from passes get (n + 1) xs later in
    let numbers = filter passes (range_with_len (n + 1) (length xs)) in
    let pairs = filter (λ p. passes p.0) (enumerate_from (n + 1) xs) in
    elim (passes n) as (λ b. filter_map get (cond b (n ∷ numbers) numbers) ≡ map {A = ℕ × X} (λ p. p.1) (cond b ((n, x) ∷ pairs) pairs)) [
      | true ↦ ap (λ o. cons_option o (filter_map get numbers)) here ∙ ap (λ l. x ∷ l) rest
      | false ↦ rest
    ]

-- the names of the members are the names at the members' indices
pub names_at_members : {X : Type 0} (xs : List X) (marks : List Bool) → length marks ≡ length xs → filter_map (slice_get xs) (members marks) ≡ at_places (has marks) xs
names_at_members xs marks long =
    ap (λ n. filter_map (slice_get xs) (filter (has marks) (range_with_len 0 n))) long
    ∙ from (has marks) (slice_get xs) 0 xs (λ k. ap (slice_get xs) (omega arith))

within : (passes : ℕ → Bool) (bound n m : ℕ) → n + m ≤ bound → AllByRecursion (λ k. k < bound) (filter passes (range_with_len n m))
within passes bound n zero h = tt
within passes bound n (suc m) h =
    let rest = within passes bound (n + 1) m (omega arith) in
    let numbers = filter passes (range_with_len (n + 1) m) in
    elim (passes n) as (λ b. AllByRecursion (λ k. k < bound) (cond b (n ∷ numbers) numbers)) [
      | true ↦ (omega arith, rest)
      | false ↦ rest
    ]

-- each member is an index of the list
pub members_within : {X : Type 0} (xs : List X) (marks : List Bool) → length marks ≡ length xs → AllByRecursion (λ n. n < length xs) (members marks)
members_within xs marks long = within (has marks) (length xs) 0 (length marks) (omega arith)

-- an index below the length has an element
got_below : {X : Type 0} (xs : List X) (n : ℕ) → n < length xs → (x : X) × (slice_get xs n ≡ Some x)
got_below [] n h = absurd (omega arith)
got_below (x ∷ xs) zero h = (x, refl)
got_below (x ∷ xs) (suc n) h = got_below xs n (omega arith)

-- a list of indices has as many elements as indices
pub as_many : {X : Type 0} (xs : List X) (numbers : List ℕ) → AllByRecursion (λ n. n < length xs) numbers → length (filter_map (slice_get xs) numbers) ≡ length numbers
as_many xs [] h = refl
as_many xs (n ∷ numbers) h =
    let found = got_below xs n h.0 in
    ap (λ o. length (cons_option o (filter_map (slice_get xs) numbers))) found.1 ∙ ap suc (as_many xs numbers h.1)

-- the remaining numbers are indices too
pub others_within : {X : Type 0} (xs : List X) (numbers rest : List ℕ) (n : ℕ) → numbers ≡ n ∷ rest → AllByRecursion (λ k. k < length xs) numbers → AllByRecursion (λ k. k < length xs) rest
others_within xs numbers rest n is h = let all : AllByRecursion (λ k. k < length xs) (n ∷ rest) = subst (λ l. AllByRecursion (λ k. k < length xs) l) is h in all.1
