-- Lists of numbers, and places in lists.
use Rattle.std.proofs.Common.{◌≡◌, ℕ, zero, suc, ◌+◌, ◌<◌, ◌≤◌, Bool, true, false, ◌||◌, ◌⊎◌, List, [], ◌∷◌, ◌++◌, Some, None, length, take, refl, sym, ◌∙◌, ap, subst, inl, inr, arith, ◌≢◌, get_or-set_other, get_or-set_same}
use Rattle.std.specs.Prelude.{IsTrue, IsFalse, slice_get, slice_set, ◌==◌}
use Rattle.std.proofs.lemmas.Bool.{eqb-true, eq-eqb, cases_lt}
use Rattle.std.proofs.lemmas.Bool.Decides.{eqb_tells}
use Rattle.std.proofs.lemmas.List.{get_or_past}
use Rattle.digraphs.specs.Bits.{has}
use Rattle.walk_engine.specs.Walks.{Way, numbers_where, is_in}
use Rattle.walk_engine.specs.Explanations.{Distinct}
use Rattle.walk_checks.proofs.Bools.{decide, or_cases, or_left, or_right, clash}

pub or_false : (b : Bool) → b ≡ (b || false)
or_false true = refl
or_false false = refl

pub is_in-append : (xs : List ℕ) (n k : ℕ) → is_in (xs ++ n ∷ []) k ≡ (is_in xs k || (n == k))
is_in-append [] n k = elim (decide (n == k)) [ inl p ↦ rw p refl | inr p ↦ rw p refl ]
is_in-append (x ∷ xs) n k = elim (decide (x == k)) [ inl p ↦ rw p refl | inr p ↦ rw p (is_in-append xs n k) ]

pub distinct_more : (xs : List ℕ) (n : ℕ) → Distinct xs → IsFalse (is_in xs n) → Distinct (xs ++ n ∷ [])
distinct_more [] n d f = (refl, tt)
distinct_more (x ∷ xs) n (d, ds) f =
    elim (decide (x == n)) [
      | inl p ↦ absurd (clash (or_left (x == n) (is_in xs n) p) f)
      | inr p ↦
          let ne : IsFalse (n == x) = elim (decide (n == x)) [ inl q ↦ absurd (clash (eq-eqb x n (sym (eqb-true n x q))) p) | inr q ↦ q ] in
          let f' : IsFalse (is_in xs n) = elim (decide (is_in xs n)) [ inl q ↦ absurd (clash (or_right (x == n) (is_in xs n) q) f) | inr q ↦ q ] in
          (is_in-append xs n x ∙ (ap (λ (b : Bool). b || (n == x)) d ∙ ne), distinct_more xs n ds f')
    ]

pub is_in_at : (xs : List ℕ) (place e : ℕ) → slice_get xs place ≡ Some e → IsTrue (is_in xs e)
is_in_at [] place e h = absurd (cc)
is_in_at (x ∷ xs) zero e h = let q : x ≡ e = cc in or_left (x == e) (is_in xs e) (eq-eqb x e q)
is_in_at (x ∷ xs) (suc place) e h = or_right (x == e) (is_in xs e) (is_in_at xs place e h)

pub not_before : (xs : List ℕ) (place e : ℕ) → Distinct xs → slice_get xs place ≡ Some e → IsFalse (is_in (take place xs) e)
not_before [] place e d h = absurd (cc)
not_before (x ∷ xs) zero e d h = refl
not_before (x ∷ xs) (suc place) e (d, ds) h =
    elim (decide (x == e)) [
      | inl t ↦ absurd (clash (subst (λ (j : ℕ). IsTrue (is_in xs j)) (sym (eqb-true x e t)) (is_in_at xs place e h)) d)
      | inr f ↦ rw f (not_before xs place e ds h)
    ]

-- A number in a list has a place.
pub place_of : (xs : List ℕ) (n : ℕ) → IsTrue (is_in xs n) → (k : ℕ) × (slice_get xs k ≡ Some n)
place_of [] n t = absurd (clash t refl)
place_of (x ∷ xs) n t =
    elim (or_cases (x == n) (is_in xs n) t) [
      | inl p ↦ (0, ap Some (eqb-true x n p))
      | inr p ↦ let r = place_of xs n p in (suc r.0, r.1)
    ]

pub take_snoc : {X : Type 0} (xs : List X) (k : ℕ) (x : X) → slice_get xs k ≡ Some x → take (suc k) xs ≡ take k xs ++ x ∷ []
take_snoc [] k x h = absurd (cc)
take_snoc (y ∷ xs) zero x h = let q : y ≡ x = cc in rw q refl
take_snoc (y ∷ xs) (suc k) x h = ap (λ ys. y ∷ ys) (take_snoc xs k x h)

pub take_past : {X : Type 0} (xs : List X) (k : ℕ) → slice_get xs k ≡ None → take (suc k) xs ≡ take k xs
take_past [] zero h = refl
take_past [] (suc k) h = refl
take_past (y ∷ xs) zero h = absurd (cc)
take_past (y ∷ xs) (suc k) h = ap (λ ys. y ∷ ys) (take_past xs k h)

pub snoc_cases : {X : Type 0} (xs : List X) (x : X) (k : ℕ) (y : X) → slice_get (xs ++ x ∷ []) k ≡ Some y → (slice_get xs k ≡ Some y) ⊎ ((k ≡ length xs) × (x ≡ y))
snoc_cases [] x zero y h = inr (refl, cc)
snoc_cases [] x (suc k) y h = absurd (cc)
snoc_cases (v ∷ xs) x zero y h = inl h
snoc_cases (v ∷ xs) x (suc k) y h = elim (snoc_cases xs x k y h) [ inl p ↦ inl p | inr p ↦ inr (ap suc p.0, p.1) ]

-- An element of a prefix is an element of the list, at the same place.
pub slice_get-take : {X : Type 0} (xs : List X) (n k : ℕ) (x : X) → slice_get (take n xs) k ≡ Some x → slice_get xs k ≡ Some x
slice_get-take xs zero k x h = absurd (cc)
slice_get-take [] (suc n) k x h = absurd (cc)
slice_get-take (y ∷ xs) (suc n) zero x h = h
slice_get-take (y ∷ xs) (suc n) (suc k) x h = slice_get-take xs n k x h

pub slice_get-within_take : {X : Type 0} (xs : List X) (n k : ℕ) (x : X) → k < n → slice_get xs k ≡ Some x → slice_get (take n xs) k ≡ Some x
slice_get-within_take xs zero k x l h = absurd (omega arith)
slice_get-within_take [] (suc n) k x l h = absurd (cc)
slice_get-within_take (y ∷ xs) (suc n) zero x l h = h
slice_get-within_take (y ∷ xs) (suc n) (suc k) x l h = slice_get-within_take xs n k x (omega arith) h

-- The number of a way that passes is in the list, at a place not above its own.
pub number_place : (p : Way → Bool) (first : ℕ) (ws : List Way) (i : ℕ) (w : Way) → slice_get ws i ≡ Some w → IsTrue (p w) → (k : ℕ) × (k ≤ i) × (slice_get (numbers_where p first ws) k ≡ Some (first + i))
number_place p first [] i w h t = absurd (cc)
number_place p first (v ∷ ws) zero w h t =
    let q : v ≡ w = cc in
    let t' : IsTrue (p v) = subst (λ (x : Way). IsTrue (p x)) (sym q) t in
    let e : first ≡ first + 0 = omega arith in
    (0, omega arith, rw t' (ap Some e))
number_place p first (v ∷ ws) (suc i) w h t =
    let r = number_place p (suc first) ws i w h t in
    let e : suc first + i ≡ first + suc i = omega arith in
    elim (decide (p v)) [
      | inl x ↦ (suc r.0, omega (arith, r.1), rw x (r.2 ∙ ap Some e))
      | inr x ↦ (r.0, omega (arith, r.1), rw x (r.2 ∙ ap Some e))
    ]

-- `e` is the number of a way that passes.
abbrev pub Numbers : (Way → Bool) → ℕ → List Way → ℕ → Type 0
Numbers p first ws e = (i : ℕ) × (e ≡ first + i) × ((w : Way) × (slice_get ws i ≡ Some w) × IsTrue (p w))

number_later : (p : Way → Bool) (first : ℕ) (w : Way) (ws : List Way) (e : ℕ) → Numbers p (suc first) ws e → Numbers p first (w ∷ ws) e
number_later p first w ws e (i, eq, found) = (suc i, omega arith, found)

number_first : (p : Way → Bool) (first : ℕ) (w : Way) (ws : List Way) (k e : ℕ) → IsTrue (p w) → ((j : ℕ) → slice_get (numbers_where p (suc first) ws) j ≡ Some e → Numbers p (suc first) ws e) → slice_get (first ∷ numbers_where p (suc first) ws) k ≡ Some e → Numbers p first (w ∷ ws) e
number_first p first w ws zero e t later h = let q : first ≡ e = cc in (0, omega arith, (w, refl, t))
number_first p first w ws (suc k) e t later h = number_later p first w ws e (later k h)

pub number_way : (p : Way → Bool) (first : ℕ) (ws : List Way) (k e : ℕ) → slice_get (numbers_where p first ws) k ≡ Some e → Numbers p first ws e
number_way p first [] k e h = absurd (cc)
number_way p first (w ∷ ws) k e h =
    let later = λ (j : ℕ) (q : slice_get (numbers_where p (suc first) ws) j ≡ Some e). number_way p (suc first) ws j e q in
    elim (decide (p w)) [
      | inl t ↦ number_first p first w ws k e t later (rw t at h)
      | inr f ↦ number_later p first w ws e (later k (rw f at h))
    ]

pub has_within : (set : List Bool) (k : ℕ) → IsTrue (has set k) → k < length set
has_within set k h = elim (cases_lt k (length set)) [ inl l ↦ l | inr past ↦ absurd (clash h (get_or_past set k false past)) ]

pub marked_is : (marks : List Bool) (n k : ℕ) → n < length marks → has (slice_set marks n true) k ≡ (has marks k || (n == k))
marked_is marks n k h =
    elim (eqb_tells n k) [
      | inl p ↦ rw p.0 (subst (λ (j : ℕ). has (slice_set marks n true) j ≡ (has marks j || true)) p.1 (rw get_or-set_same (sym (or_right (has marks n) true refl))))
      | inr p ↦ let ne : k ≢ n = (λ q. p.1 (sym q)) in rw p.0 (rw get_or-set_other (or_false (has marks k)))
    ]
