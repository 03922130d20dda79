use Rattle.std.proofs.Common.{◌≡◌, ◌≢◌, ℕ, zero, suc, ◌+◌, ◌<◌, ◌≤◌, Bool, true, false, cond, ◌||◌, ◌⊎◌, List, [], ◌∷◌, ◌++◌, Some, length, take, refl, sym, ◌∙◌, ap, subst, inl, inr, arith, get_or-set_other, get_or-set_same}
use Rattle.std.specs.Prelude.{IsTrue, IsFalse, slice_get, slice_set, ◌==◌, count_by, if◌then◌else◌}
use Rattle.std.proofs.lemmas.List.Sums.{count_by-le-length, sum_by-cons}
use Rattle.std.proofs.lemmas.Bool.{eqb-true, eq-eqb}
use Rattle.std.proofs.lemmas.Bool.Decides.{eqb_tells}
use Rattle.digraphs.specs.Bits.{has}
use Rattle.walk_engine.specs.Walks.{Way, numbers_where, is_in}
use Rattle.walk_engine.specs.Explanations.{Distinct}
use Rattle.walk_engine.proofs.Answered.{decide, or_cases, or_left, or_right, clash}

pub marked_set : (marks : List Bool) (n : ℕ) → n < length marks → IsTrue (has (slice_set marks n true) n)
marked_set marks n h = rw get_or-set_same refl

pub marked_grows : (marks : List Bool) (n k : ℕ) → n < length marks → IsTrue (has marks k) → IsTrue (has (slice_set marks n true) k)
marked_grows marks n k h t =
    elim (eqb_tells k n) [
      | inl p ↦ subst (λ (j : ℕ). IsTrue (has (slice_set marks n true) j)) (sym p.1) (marked_set marks n h)
      | inr p ↦ let ne : k ≢ n = p.1 in rw get_or-set_other t
    ]

pub marked_cases : (marks : List Bool) (n k : ℕ) → IsTrue (has (slice_set marks n true) k) → (k ≡ n) ⊎ IsTrue (has marks k)
marked_cases marks n k t =
    elim (eqb_tells k n) [
      | inl p ↦ inl p.1
      | inr p ↦ let ne : k ≢ n = p.1 in inr (rw get_or-set_other at t)
    ]

pub is_in-append : (xs : List ℕ) (n k : ℕ) → is_in (xs ++ n ∷ []) k ≡ (is_in xs k || (n == k))
is_in-append [] n k = elim (decide (n == k)) [ inl p ↦ rw p refl | inr p ↦ rw p refl ]
is_in-append (x ∷ xs) n k = elim (decide (x == k)) [ inl p ↦ rw p refl | inr p ↦ rw p (is_in-append xs n k) ]

pub distinct_more : (xs : List ℕ) (n : ℕ) → Distinct xs → IsFalse (is_in xs n) → Distinct (xs ++ n ∷ [])
distinct_more [] n d f = (refl, tt)
distinct_more (x ∷ xs) n (d, ds) f =
    elim (decide (x == n)) [
      | inl p ↦ absurd (clash (or_left (x == n) (is_in xs n) p) f)
      | inr p ↦
          let ne : IsFalse (n == x) = elim (decide (n == x)) [ inl q ↦ absurd (clash (eq-eqb x n (sym (eqb-true n x q))) p) | inr q ↦ q ] in
          let f' : IsFalse (is_in xs n) = elim (decide (is_in xs n)) [ inl q ↦ absurd (clash (or_right (x == n) (is_in xs n) q) f) | inr q ↦ q ] in
          (is_in-append xs n x ∙ (ap (λ (b : Bool). b || (n == x)) d ∙ ne), distinct_more xs n ds f')
    ]

-- `e` is the number of a way that passes.
abbrev pub Numbers : (Way → Bool) → ℕ → List Way → ℕ → Type 0
Numbers p first ws e = (i : ℕ) × (e ≡ first + i) × ((w : Way) × (slice_get ws i ≡ Some w) × IsTrue (p w))

number_later : (p : Way → Bool) (first : ℕ) (w : Way) (ws : List Way) (e : ℕ) → Numbers p (suc first) ws e → Numbers p first (w ∷ ws) e
number_later p first w ws e (i, eq, found) = (suc i, omega arith, found)

number_first : (p : Way → Bool) (first : ℕ) (w : Way) (ws : List Way) (k e : ℕ) → IsTrue (p w) → ((j : ℕ) → slice_get (numbers_where p (suc first) ws) j ≡ Some e → Numbers p (suc first) ws e) → slice_get (first ∷ numbers_where p (suc first) ws) k ≡ Some e → Numbers p first (w ∷ ws) e
number_first p first w ws zero e t later h = let q : first ≡ e = cc in (0, omega arith, (w, refl, t))
number_first p first w ws (suc k) e t later h = number_later p first w ws e (later k h)

-- Each number in the list is that of a way that passes.
pub number_way : (p : Way → Bool) (first : ℕ) (ws : List Way) (k e : ℕ) → slice_get (numbers_where p first ws) k ≡ Some e → Numbers p first ws e
number_way p first [] k e h = absurd (cc)
number_way p first (w ∷ ws) k e h =
    let later = λ (j : ℕ) (q : slice_get (numbers_where p (suc first) ws) j ≡ Some e). number_way p (suc first) ws j e q in
    elim (decide (p w)) [
      | inl t ↦ number_first p first w ws k e t later (rw t at h)
      | inr f ↦ number_later p first w ws e (later k (rw f at h))
    ]

or_false : (b : Bool) → b ≡ (b || false)
or_false true = refl
or_false false = refl

pub marked_set_is : (marks : List Bool) (n k : ℕ) → n < length marks → has (slice_set marks n true) k ≡ (has marks k || (n == k))
marked_set_is marks n k h =
    elim (eqb_tells n k) [
      | inl p ↦ rw p.0 (subst (λ (j : ℕ). has (slice_set marks n true) j ≡ (has marks j || true)) p.1 (marked_set marks n h ∙ sym (or_right (has marks n) true refl)))
      | inr p ↦ let ne : k ≢ n = (λ q. p.1 (sym q)) in rw p.0 (rw get_or-set_other (or_false (has marks k)))
    ]

pub count_below : (marks : List Bool) (n : ℕ) → n < length marks → IsFalse (has marks n) → count_by (λ b. b) marks < length marks
count_below [] n h f = omega arith
count_below (true ∷ marks) zero h f = absurd (clash refl f)
count_below (false ∷ marks) zero h f = let e : count_by (λ b. b) (false ∷ marks) ≡ 0 + count_by (λ b. b) marks = sum_by-cons (λ (b : Bool). cond b 1 0) false marks in omega (arith, count_by-le-length (λ (b : Bool). b) marks)
count_below (true ∷ marks) (suc n) h f = let e : count_by (λ b. b) (true ∷ marks) ≡ 1 + count_by (λ b. b) marks = sum_by-cons (λ (b : Bool). cond b 1 0) true marks in let r : count_by (λ b. b) marks < length marks = count_below marks n (omega arith) f in omega arith
count_below (false ∷ marks) (suc n) h f = let e : count_by (λ b. b) (false ∷ marks) ≡ 0 + count_by (λ b. b) marks = sum_by-cons (λ (b : Bool). cond b 1 0) false marks in let r : count_by (λ b. b) marks < length marks = count_below marks n (omega arith) f in omega arith

pub take_is_in : (xs : List ℕ) (place e k : ℕ) → slice_get xs place ≡ Some e → is_in (take (suc place) xs) k ≡ (is_in (take place xs) k || (e == k))
take_is_in [] place e k h = absurd (cc)
take_is_in (x ∷ xs) zero e k h = let q : x ≡ e = cc in rw q (sym (or_false (e == k)))
take_is_in (x ∷ xs) (suc place) e k h = elim (decide (x == k)) [ inl t ↦ rw t refl | inr f ↦ rw f (take_is_in xs place e k h) ]

pub is_in_at : (xs : List ℕ) (place e : ℕ) → slice_get xs place ≡ Some e → IsTrue (is_in xs e)
is_in_at [] place e h = absurd (cc)
is_in_at (x ∷ xs) zero e h = let q : x ≡ e = cc in or_left (x == e) (is_in xs e) (eq-eqb x e q)
is_in_at (x ∷ xs) (suc place) e h = or_right (x == e) (is_in xs e) (is_in_at xs place e h)

pub not_before : (xs : List ℕ) (place e : ℕ) → Distinct xs → slice_get xs place ≡ Some e → IsFalse (is_in (take place xs) e)
not_before [] place e d h = absurd (cc)
not_before (x ∷ xs) zero e d h = refl
not_before (x ∷ xs) (suc place) e (d, ds) h =
    elim (decide (x == e)) [
      | inl t ↦ absurd (clash (subst (λ (j : ℕ). IsTrue (is_in xs j)) (sym (eqb-true x e t)) (is_in_at xs place e h)) d)
      | inr f ↦ rw f (not_before xs place e ds h)
    ]

numbers_above : (p : Way → Bool) (first : ℕ) (ws : List Way) (k : ℕ) → IsTrue (is_in (numbers_where p first ws) k) → first ≤ k
numbers_above p first [] k h = absurd (clash h refl)
numbers_above p first (w ∷ ws) k h =
    elim (decide (p w)) [
      | inl t ↦ elim (or_cases (first == k) (is_in (numbers_where p (suc first) ws) k) (rw t at h)) [
        | inl q ↦ let e : first ≡ k = eqb-true first k q in omega arith
        | inr q ↦ let r : suc first ≤ k = numbers_above p (suc first) ws k q in omega arith
      ]
      | inr f ↦ let r : suc first ≤ k = numbers_above p (suc first) ws k (rw f at h) in omega arith
    ]

not_later : (p : Way → Bool) (first : ℕ) (ws : List Way) → IsFalse (is_in (numbers_where p (suc first) ws) first)
not_later p first ws = elim (decide (is_in (numbers_where p (suc first) ws) first)) [
  | inl t ↦ absurd (let r : suc first ≤ first = numbers_above p (suc first) ws first t in omega arith)
  | inr f ↦ f
]

pub numbers_distinct : (p : Way → Bool) (first : ℕ) (ws : List Way) → Distinct (numbers_where p first ws)
numbers_distinct p first [] = tt
numbers_distinct p first (w ∷ ws) = elim (decide (p w)) [
  | inl t ↦ rw t (not_later p first ws, numbers_distinct p (suc first) ws)
  | inr f ↦ rw f (numbers_distinct p (suc first) ws)
]

pub number_in : (p : Way → Bool) (first : ℕ) (ws : List Way) (i e : ℕ) (w : Way) → e ≡ first + i → slice_get ws i ≡ Some w → is_in (numbers_where p first ws) e ≡ p w
number_in p first [] i e w q h = absurd (cc)
number_in p first (v ∷ vs) zero e w q h =
    let same : v ≡ w = cc in
    let same_e : first ≡ e = omega arith in
    subst (λ (x : Way). is_in (numbers_where p first (v ∷ vs)) e ≡ p x) same
    (subst (λ (k : ℕ). is_in (numbers_where p first (v ∷ vs)) k ≡ p v) same_e (elim (decide (p v)) [
      | inl t ↦ rw t (or_left (first == first) (is_in (numbers_where p (suc first) vs) first) (eq-eqb first first refl))
      | inr f ↦ rw f (not_later p first vs)
    ]))
number_in p first (v ∷ vs) (suc i) e w q h =
    let later : is_in (numbers_where p (suc first) vs) e ≡ p w = number_in p (suc first) vs i e w (omega arith) h in
    elim (decide (p v)) [
      | inl t ↦ rw t (elim (decide (first == e)) [
        | inl x ↦ absurd (let y : first ≡ e = eqb-true first e x in omega arith)
        | inr x ↦ rw x later
      ])
      | inr f ↦ rw f later
    ]

abbrev one : Bool → ℕ
one b = cond b 1 0

length_if : (b : Bool) (x : ℕ) (xs : List ℕ) → length (if b then x ∷ xs else xs) ≡ one b + length xs
length_if true x xs = omega arith
length_if false x xs = omega arith

pub length-numbers : (p : Way → Bool) (first : ℕ) (ws : List Way) → length (numbers_where p first ws) ≡ count_by p ws
length-numbers p first [] = refl
length-numbers p first (w ∷ ws) =
    let e : count_by p (w ∷ ws) ≡ one (p w) + count_by p ws = sum_by-cons (λ (v : Way). cond (p v) 1 0) w ws in
    let r : length (numbers_where p (suc first) ws) ≡ count_by p ws = length-numbers p (suc first) ws in
    length_if (p w) first (numbers_where p (suc first) ws) ∙ (ap (λ (k : ℕ). one (p w) + k) r ∙ sym e)

pub count_by_same : (p q : Way → Bool) → ((w : Way) → p w ≡ q w) → (ws : List Way) → count_by p ws ≡ count_by q ws
count_by_same p q f [] = refl
count_by_same p q f (w ∷ ws) =
    let a : count_by p (w ∷ ws) ≡ one (p w) + count_by p ws = sum_by-cons (λ (v : Way). cond (p v) 1 0) w ws in
    let b : count_by q (w ∷ ws) ≡ one (q w) + count_by q ws = sum_by-cons (λ (v : Way). cond (q v) 1 0) w ws in
    let r : count_by p ws ≡ count_by q ws = count_by_same p q f ws in
    let h : p w ≡ q w = f w in
    let d : one (p w) ≡ one (q w) = ap one h in
    omega arith

either_one : (a b : Bool) → (IsTrue b → IsFalse a) → one (a || b) ≡ one a + one b
either_one true true f = absurd (clash refl (f refl))
either_one true false f = refl
either_one false true f = refl
either_one false false f = refl

-- If two tests never pass together, the count of either is the sum of their counts.
pub count_by_either : (p q : Way → Bool) → ((w : Way) → IsTrue (q w) → IsFalse (p w)) → (ws : List Way) → count_by (λ w. p w || q w) ws ≡ count_by p ws + count_by q ws
count_by_either p q f [] = refl
count_by_either p q f (w ∷ ws) =
    let a : count_by p (w ∷ ws) ≡ one (p w) + count_by p ws = sum_by-cons (λ (v : Way). cond (p v) 1 0) w ws in
    let b : count_by q (w ∷ ws) ≡ one (q w) + count_by q ws = sum_by-cons (λ (v : Way). cond (q v) 1 0) w ws in
    let m : count_by (λ v. p v || q v) (w ∷ ws) ≡ one (p w || q w) + count_by (λ v. p v || q v) ws = sum_by-cons (λ (v : Way). cond (p v || q v) 1 0) w ws in
    let r : count_by (λ v. p v || q v) ws ≡ count_by p ws + count_by q ws = count_by_either p q f ws in
    let d : one (p w || q w) ≡ one (p w) + one (q w) = either_one (p w) (q w) (f w) in
    omega arith

pub length_numbers_le : (p : Way → Bool) (ws : List Way) → length (numbers_where p 0 ws) ≤ length ws
length_numbers_le p ws = rw (length-numbers p 0 ws) (count_by-le-length p ws)

pub snoc_cases : {X : Type 0} (xs : List X) (x : X) (k : ℕ) (y : X) → slice_get (xs ++ x ∷ []) k ≡ Some y → (slice_get xs k ≡ Some y) ⊎ ((k ≡ length xs) × (x ≡ y))
snoc_cases [] x zero y h = inr (refl, cc)
snoc_cases [] x (suc k) y h = absurd (cc)
snoc_cases (v ∷ xs) x zero y h = inl h
snoc_cases (v ∷ xs) x (suc k) y h = elim (snoc_cases xs x k y h) [ inl p ↦ inl p | inr p ↦ inr (ap suc p.0, p.1) ]
