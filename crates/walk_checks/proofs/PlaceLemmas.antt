-- The places of nodes in steps.
use Rattle.std.proofs.Common.{◌≡◌, ℕ, zero, suc, ◌<◌, ◌≤◌, ◌≢◌, Bool, true, false, ◌||◌, List, [], ◌∷◌, Option, Some, None, length, take, refl, sym, ◌∙◌, ap, subst, inl, inr, arith, get_or-set_other, get_or-set_same, length-set}
use Rattle.std.specs.Prelude.{IsTrue, IsFalse, MatchOption, slice_get, slice_index_or, slice_set, replicate, ◌==◌}
use Rattle.std.proofs.lemmas.Bool.{cases_lt}
use Rattle.std.proofs.lemmas.Bool.Decides.{eqb_tells}
use Rattle.std.proofs.lemmas.List.{get_or_past}
use Rattle.std.proofs.lemmas.Option.{MatchOption-at_some}
use Rattle.walk_engine.specs.declared.walks.Step.{Step}
use Rattle.walk_engine.specs.Walks.{is_in}
use Rattle.walk_engine.specs.Explanations.{Distinct, nodes_of}
use Rattle.walk_checks.proofs.Bools.{clash, or_cases, or_left, or_right}
use Rattle.walk_checks.proofs.Numbers.{is_in-append, is_in_at, not_before, take_snoc, slice_get-within_take}
use Rattle.walk_checks.proofs.BackLemmas.{first_more}

-- A node's place is one of its places in `nodes`, and a node below `count` without a place isn't in `listed`.
abbrev pub Placed : ℕ → List ℕ → List ℕ → (ℕ → Option ℕ) → Type 0
Placed count listed nodes place = (n : ℕ) → MatchOption (place n) (n < count → IsFalse (is_in listed n)) (λ p. slice_get nodes p ≡ Some n)

-- The place that a list has for each node.
abbrev pub listed_at : List (Option ℕ) → ℕ → Option ℕ
listed_at list n = slice_index_or list n None

none_at : (count n : ℕ) → listed_at (replicate count None) n ≡ None
none_at zero n = refl
none_at (suc count) zero = refl
none_at (suc count) (suc n) = none_at count n

pub placed_none : (count : ℕ) (nodes : List ℕ) (list : List (Option ℕ)) → list ≡ replicate count None → Placed count [] nodes (listed_at list)
placed_none count nodes list e n =
    let none : listed_at list n ≡ None = ap (λ (xs : List (Option ℕ)). listed_at xs n) e ∙ none_at count n in
    subst (λ (o : Option ℕ). MatchOption o (n < count → IsFalse (is_in [] n)) (λ p. slice_get nodes p ≡ Some n)) (sym none) (λ l. refl)

both_false : (a b : Bool) → IsFalse a → IsFalse b → IsFalse (a || b)
both_false true b f g = absurd (clash refl f)
both_false false b f g = g

unlisted_more : (o : Option ℕ) (P P' : Type 0) (Q : ℕ → Type 0) → (P → P') → MatchOption o P Q → MatchOption o P' Q
unlisted_more None P P' Q f m = f m
unlisted_more (Some p) P P' Q f m = m

set_past : (count x : ℕ) (list : List (Option ℕ)) (o : Option ℕ) → length list ≡ count → count ≤ x → listed_at (slice_set list x o) x ≡ None
set_past count x list o size past = let long : length (slice_set list x o) ≡ length list = length-set list x o in get_or_past (slice_set list x o) x None (omega arith)

placed_here : (count i x : ℕ) (nodes : List ℕ) (list : List (Option ℕ)) → length list ≡ count → slice_get nodes i ≡ Some x → MatchOption (listed_at (slice_set list x (Some i)) x) (x < count → IsFalse (is_in (take (suc i) nodes) x)) (λ p. slice_get nodes p ≡ Some x)
placed_here count i x nodes list size at =
    elim (cases_lt x count) [
      | inl l ↦
          let inside : x < length list = omega arith in
          subst (λ (o : Option ℕ). MatchOption o (x < count → IsFalse (is_in (take (suc i) nodes) x)) (λ p. slice_get nodes p ≡ Some x)) (sym (get_or-set_same list x (Some i) None inside)) at
      | inr past ↦ subst (λ (o : Option ℕ). MatchOption o (x < count → IsFalse (is_in (take (suc i) nodes) x)) (λ p. slice_get nodes p ≡ Some x)) (sym (set_past count x list (Some i) size past)) (λ l. absurd (omega arith))
    ]

-- The place of one more node is set.
pub placed_more : (count i x : ℕ) (nodes : List ℕ) (list : List (Option ℕ)) → length list ≡ count → slice_get nodes i ≡ Some x → Placed count (take i nodes) nodes (listed_at list) → Placed count (take (suc i) nodes) nodes (listed_at (slice_set list x (Some i)))
placed_more count i x nodes list size at was n =
    elim (eqb_tells x n) [
      | inl p ↦ subst (λ (m : ℕ). MatchOption (listed_at (slice_set list x (Some i)) m) (m < count → IsFalse (is_in (take (suc i) nodes) m)) (λ q. slice_get nodes q ≡ Some m)) p.1 (placed_here count i x nodes list size at)
      | inr p ↦
          let ne : n ≢ x = (λ q. p.1 (sym q)) in
          let more : is_in (take (suc i) nodes) n ≡ (is_in (take i nodes) n || (x == n)) = ap (λ (xs : List ℕ). is_in xs n) (take_snoc nodes i x at) ∙ is_in-append (take i nodes) x n in
          let same : listed_at (slice_set list x (Some i)) n ≡ listed_at list n = get_or-set_other list x n (Some i) None ne in
          subst (λ (o : Option ℕ). MatchOption o (n < count → IsFalse (is_in (take (suc i) nodes) n)) (λ q. slice_get nodes q ≡ Some n)) (sym same)
          (unlisted_more (listed_at list n) (n < count → IsFalse (is_in (take i nodes) n)) (n < count → IsFalse (is_in (take (suc i) nodes) n)) (λ q. slice_get nodes q ≡ Some n) (λ f l. more ∙ both_false (is_in (take i nodes) n) (x == n) (f l) p.0) (was n))
    ]

pub placed_at : (count : ℕ) (nodes : List ℕ) (place : ℕ → Option ℕ) → Placed count nodes nodes place → (n p : ℕ) → place n ≡ Some p → slice_get nodes p ≡ Some n
placed_at count nodes place placed n p e = MatchOption-at_some (n < count → IsFalse (is_in nodes n)) (λ (q : ℕ). slice_get nodes q ≡ Some n) p e (placed n)

place_from : (count n : ℕ) (nodes : List ℕ) (o : Option ℕ) → MatchOption o (n < count → IsFalse (is_in nodes n)) (λ q. slice_get nodes q ≡ Some n) → n < count → IsTrue (is_in nodes n) → (p : ℕ) × (o ≡ Some p)
place_from count n nodes None none l t = absurd (clash t (none l))
place_from count n nodes (Some p) at l t = (p, refl)

-- A listed node has a place.
pub place_listed : (count : ℕ) (nodes : List ℕ) (place : ℕ → Option ℕ) → Placed count nodes nodes place → (n : ℕ) → n < count → IsTrue (is_in nodes n) → (p : ℕ) × (place n ≡ Some p)
place_listed count nodes place placed n l t = place_from count n nodes (place n) (placed n) l t

not_later : (xs : List ℕ) (p q n : ℕ) → Distinct xs → slice_get xs p ≡ Some n → slice_get xs q ≡ Some n → p < q → ⊥
not_later xs p q n once at also l = clash (is_in_at (take q xs) p n (slice_get-within_take xs q p n l at)) (not_before xs q n once also)

-- A node that is listed once is at one place.
pub one_place : (xs : List ℕ) (p q n : ℕ) → Distinct xs → slice_get xs p ≡ Some n → slice_get xs q ≡ Some n → p ≡ q
one_place xs p q n once at also =
    elim (cases_lt p q) [
      | inl l ↦ absurd (not_later xs p q n once at also l)
      | inr m ↦ elim (cases_lt q p) [ inl l ↦ absurd (not_later xs q p n once also at l) | inr k ↦ omega arith ]
    ]

-- A node that is listed before a place has a lower one.
pub lower_place : (xs : List ℕ) (p q n : ℕ) → Distinct xs → slice_get xs q ≡ Some n → IsTrue (is_in (take p xs) n) → q < p
lower_place xs p q n once at t = elim (cases_lt q p) [ inl l ↦ l | inr m ↦ absurd (clash (first_more xs p q n m t) (not_before xs q n once at)) ]

-- A node that is listed before a place is listed.
pub in_first : (xs : List ℕ) (p n : ℕ) → IsTrue (is_in (take p xs) n) → IsTrue (is_in xs n)
in_first xs zero n t = absurd (clash t refl)
in_first [] (suc p) n t = absurd (clash t refl)
in_first (x ∷ xs) (suc p) n t = elim (or_cases (x == n) (is_in (take p xs) n) t) [ inl q ↦ or_left (x == n) (is_in xs n) q | inr q ↦ or_right (x == n) (is_in xs n) (in_first xs p n q) ]

pub step_at : (steps : List Step) (p n : ℕ) → slice_get (nodes_of steps) p ≡ Some n → (step : Step) × (slice_get steps p ≡ Some step) × (step.node ≡ n)
step_at [] p n h = absurd (cc)
step_at (s ∷ steps) zero n h = let e : s.node ≡ n = cc in (s, refl, e)
step_at (s ∷ steps) (suc p) n h = step_at steps p n h
