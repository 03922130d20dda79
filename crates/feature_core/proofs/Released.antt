-- Edges by the gates that release them.
use Rattle.std.proofs.Common.{◌≡◌, ℕ, zero, suc, ◌<◌, ◌≤◌, ◌⊎◌, inl, inr, ⊎_elim, true, false, cond, List, [], ◌∷◌, Option, Some, None, drop, refl, sym, ◌∙◌, ap, arith}
use Rattle.std.specs.Prelude.{IsTrue, nat_lt, slice_index_or, IsFalse, ◌==◌, slice_get, Contains, All, AllPairs}
use Rattle.std.proofs.lemmas.List.Elements.{All-cons, All-head, All-tail, All-weaker}
use Rattle.std.specs.List.Sorted.{IsNonDecreasingBy, IsPartitionPoint}
use Rattle.std.proofs.lemmas.Bool.{eqb-true, eq-eqb}
use Rattle.std.proofs.lemmas.Bool.Decides.{eqb_tells, nat_tests}
use Rattle.feature_edges.specs.Pairs.{IsBefore}
use Rattle.walk_engine.specs.Walks.{is_in}
use Rattle.feature_core.specs.inner.Releases.{Begins, released_by}
use Rattle.feature_core.proofs.Answered.{decide, clash, or_left, or_right, or_cases}

-- ascending, and all of it from a number on
abbrev pub Rises : ℕ → List ℕ → Type 0
Rises low [] = Unit {0}
Rises low (x ∷ xs) = (low ≤ x) × Rises (suc x) xs

above : (low : ℕ) (xs : List ℕ) (n : ℕ) → Rises low xs → IsTrue (is_in xs n) → low ≤ n
above low [] n h t = absurd (clash t refl)
above low (x ∷ xs) n (h, hs) t = ⊎_elim
    (λ (e : IsTrue (x == n)). let q : x ≡ n = eqb-true x n e in omega arith)
    (λ (e : IsTrue (is_in xs n)). let r : suc x ≤ n = above (suc x) xs n hs e in omega arith)
    (or_cases (x == n) (is_in xs n) t)

first_in : (x : ℕ) (xs : List ℕ) → IsTrue (is_in (x ∷ xs) x)
first_in x xs = or_left (x == x) (is_in xs x) (eq-eqb x x refl)

later_in : (low x n : ℕ) (xs : List ℕ) → Rises (suc x) xs → suc x ≤ n → IsTrue (is_in (x ∷ xs) n) → IsTrue (is_in xs n)
later_in low x n xs h l t = ⊎_elim
    (λ (e : IsTrue (x == n)). absurd (let q : x ≡ n = eqb-true x n e in omega arith))
    (λ (e : IsTrue (is_in xs n)). e)
    (or_cases (x == n) (is_in xs n) t)

same_first : (x y : ℕ) (xs ys : List ℕ) → Rises (suc x) xs → Rises (suc y) ys → IsTrue (is_in (y ∷ ys) x) → IsTrue (is_in (x ∷ xs) y) → x ≡ y
same_first x y xs ys hx hy tx ty = ⊎_elim
    (λ (e : IsTrue (y == x)). sym (eqb-true y x e))
    (λ (e : IsTrue (is_in ys x)). ⊎_elim
    (λ (q : IsTrue (x == y)). eqb-true x y q)
    (λ (q : IsTrue (is_in xs y)). absurd (let a : suc y ≤ x = above (suc y) ys x hy e in let b : suc x ≤ y = above (suc x) xs y hx q in omega arith))
    (or_cases (x == y) (is_in xs y) ty))
    (or_cases (y == x) (is_in ys x) tx)

-- two ascending lists with the same numbers are equal
pub same_rising : (a b : ℕ) (xs ys : List ℕ) → Rises a xs → Rises b ys → ((n : ℕ) → IsTrue (is_in xs n) → IsTrue (is_in ys n)) → ((n : ℕ) → IsTrue (is_in ys n) → IsTrue (is_in xs n)) → xs ≡ ys
same_rising a b [] [] hx hy f g = refl
same_rising a b [] (y ∷ ys) hx hy f g = absurd (clash (g y (first_in y ys)) refl)
same_rising a b (x ∷ xs) [] hx hy f g = absurd (clash (f x (first_in x xs)) refl)
same_rising a b (x ∷ xs) (y ∷ ys) (lx, hx) (ly, hy) f g =
    let e : x ≡ y = same_first x y xs ys hx hy (f x (first_in x xs)) (g y (first_in y ys)) in
    let rest : xs ≡ ys = same_rising (suc x) (suc y) xs ys hx hy
    (λ n t. later_in b y n ys hy (let l : suc x ≤ n = above (suc x) xs n hx t in omega arith) (f n (or_right (x == n) (is_in xs n) t)))
    (λ n t. later_in a x n xs hx (let l : suc y ≤ n = above (suc y) ys n hy t in omega arith) (g n (or_right (y == n) (is_in ys n) t))) in
    cc

pub Contains-first : {X : Type 0} (x : X) (xs : List X) → Contains (x ∷ xs) x
Contains-first x xs = (0, omega arith, refl)

pub Contains-later : {X : Type 0} (x : X) (xs : List X) (y : X) → Contains xs y → Contains (x ∷ xs) y
Contains-later x xs y h = (suc h.0, omega arith, h.2)

pub Contains-cases : {X : Type 0} (x : X) (xs : List X) (y : X) → Contains (x ∷ xs) y → (x ≡ y) ⊎ Contains xs y
Contains-cases x xs y (zero, l, e) = inl e
Contains-cases x xs y (suc k, l, e) = inr (k, omega arith, e)

pub none_contained : {X : Type 0} (y : X) → Contains [] y → ⊥
none_contained y (k, l, e) = omega arith

pub AllPairs-first : {X : Type 0} (R : X → X → Type 0) (x : X) (xs : List X) → AllPairs R (x ∷ xs) → All (R x) xs
AllPairs-first R x xs h k d l = h 0 (suc k) d (omega arith) (omega arith)

pub AllPairs-later : {X : Type 0} (R : X → X → Type 0) (x : X) (xs : List X) → AllPairs R (x ∷ xs) → AllPairs R xs
AllPairs-later R x xs h i j d l m = h (suc i) (suc j) d (omega arith) (omega arith)

pair_is : (r : ℕ × ℕ) (a b : ℕ) → r.0 ≡ a → r.1 ≡ b → r ≡ (a, b)
pair_is (x, y) a b p q = cc

-- a number with this gate is in the list with it
pub in_released : (gate e : ℕ) (rs : List (ℕ × ℕ)) → IsTrue (is_in (released_by gate rs) e) → Contains rs (gate, e)
in_released gate e [] t = absurd (clash t refl)
in_released gate e (r ∷ rs) t = elim (decide (r.0 == gate)) [
  | inl q ↦ ⊎_elim
      (λ (s : IsTrue (r.1 == e)). let a : r.0 ≡ gate = eqb-true r.0 gate q in let b : r.1 ≡ e = eqb-true r.1 e s in (0, omega arith, pair_is r gate e a b))
      (λ (s : IsTrue (is_in (released_by gate rs) e)). Contains-later r rs (gate, e) (in_released gate e rs s))
      (or_cases (r.1 == e) (is_in (released_by gate rs) e) (rw q at t))
  | inr q ↦ Contains-later r rs (gate, e) (in_released gate e rs (rw q at t))
]

pub released_in : (gate e : ℕ) (rs : List (ℕ × ℕ)) → Contains rs (gate, e) → IsTrue (is_in (released_by gate rs) e)
released_in gate e [] h = absurd (none_contained (gate, e) h)
released_in gate e (r ∷ rs) h = ⊎_elim
    (λ (s : r ≡ (gate, e)).
    let a : IsTrue (r.0 == gate) = eq-eqb r.0 gate (ap (λ p. p.0) s) in
    let b : IsTrue (r.1 == e) = eq-eqb r.1 e (ap (λ p. p.1) s) in
    rw a (or_left (r.1 == e) (is_in (released_by gate rs) e) b))
    (λ (s : Contains rs (gate, e)).
    let later : IsTrue (is_in (released_by gate rs) e) = released_in gate e rs s in
    elim (decide (r.0 == gate)) [
      | inl q ↦ rw q (or_right (r.1 == e) (is_in (released_by gate rs) e) later)
      | inr q ↦ rw q later
    ])
    (Contains-cases r rs (gate, e) h)

-- the numbers with one gate ascend
pub released_rises : (gate low : ℕ) (rs : List (ℕ × ℕ)) → AllPairs IsBefore rs → All (λ r. r.0 ≡ gate → low ≤ r.1) rs → Rises low (released_by gate rs)
released_rises gate low [] o l = tt
released_rises gate low (r ∷ rs) o l = elim (decide (r.0 == gate)) [
  | inl q ↦
      let e : r.0 ≡ gate = eqb-true r.0 gate q in
      let here : low ≤ r.1 = All-head (λ r. r.0 ≡ gate → low ≤ r.1) r rs l e in
      let later : All (λ y. y.0 ≡ gate → suc r.1 ≤ y.1) rs = All-weaker (IsBefore r) (λ y. y.0 ≡ gate → suc r.1 ≤ y.1) (λ y b g. ⊎_elim (λ (z : r.0 < y.0). absurd (omega arith)) (λ (z : (r.0 ≡ y.0) × (r.1 < y.1)). omega arith) b) rs (AllPairs-first IsBefore r rs o) in
      rw q (here, released_rises gate (suc r.1) rs (AllPairs-later IsBefore r rs o) later)
  | inr q ↦ rw q (released_rises gate low rs (AllPairs-later IsBefore r rs o) (All-tail (λ r. r.0 ≡ gate → low ≤ r.1) r rs l))
]

-- the edge of an entry of the list, if it has the gate
abbrev pub picked : ℕ → Option (ℕ × ℕ) → Option ℕ
picked gate None = None
picked gate (Some r) = cond (r.0 == gate) (Some r.1) None

not_here : (gate place : ℕ) (r : ℕ × ℕ) (rs : List (ℕ × ℕ)) → IsFalse (r.0 == gate) → ((k : ℕ) → picked gate (slice_get rs k) ≡ None) → picked gate (slice_get (r ∷ rs) place) ≡ None
not_here gate zero r rs q f = rw q refl
not_here gate (suc place) r rs q f = f place

not_this : (gate place : ℕ) (rs : List (ℕ × ℕ)) → All (λ r. gate < r.0) rs → (picked gate (slice_get rs place) ≡ None) × (released_by gate rs ≡ [])
not_this gate place [] h = (refl, refl)
not_this gate place (r ∷ rs) h = elim (decide (r.0 == gate)) [
  | inl q ↦ absurd (let e : r.0 ≡ gate = eqb-true r.0 gate q in let l : gate < r.0 = All-head (λ r. gate < r.0) r rs h in omega arith)
  | inr q ↦ (not_here gate place r rs q (λ k. (not_this gate k rs (All-tail (λ r. gate < r.0) r rs h)).0), rw q ((not_this gate place rs (All-tail (λ r. gate < r.0) r rs h)).1))
]

begins_later : (gate first : ℕ) (r : ℕ × ℕ) (rs : List (ℕ × ℕ)) → Begins gate (suc first) (r ∷ rs) → Begins gate first rs
begins_later gate first r rs h = record { before = λ k d l. h.before (suc k) d (omega arith); after = λ k d l m. h.after (suc k) d (omega arith) (omega arith) }

begins_here : (gate : ℕ) (r : ℕ × ℕ) (rs : List (ℕ × ℕ)) → Begins gate 0 (r ∷ rs) → Begins gate 0 rs
begins_here gate r rs h = record { before = λ k d l. absurd (omega arith); after = λ k d l m. h.after (suc k) d (omega arith) (omega arith) }

at_gate : (gate place : ℕ) (r : ℕ × ℕ) (rs : List (ℕ × ℕ)) → IsTrue (r.0 == gate) → ((k : ℕ) → slice_get (released_by gate rs) k ≡ picked gate (slice_get rs k)) → slice_get (released_by gate (r ∷ rs)) place ≡ picked gate (slice_get (r ∷ rs) place)
at_gate gate zero r rs q f = rw q refl
at_gate gate (suc place) r rs q f = rw q (f place)

-- places count from the first entry with the gate
pub released_place : (gate first place : ℕ) (rs : List (ℕ × ℕ)) → AllPairs IsBefore rs → Begins gate first rs → slice_get (released_by gate rs) place ≡ picked gate (slice_get (drop first rs) place)
released_place gate zero place [] o h = refl
released_place gate (suc first) place [] o h = refl
released_place gate (suc first) place (r ∷ rs) o h = elim (decide (r.0 == gate)) [
  | inl q ↦ absurd (let e : r.0 ≡ gate = eqb-true r.0 gate q in let l : r.0 < gate = h.before 0 r (omega arith) in omega arith)
  | inr q ↦ rw q (released_place gate first place rs (AllPairs-later IsBefore r rs o) (begins_later gate first r rs h))
]
released_place gate zero place (r ∷ rs) o h = elim (decide (r.0 == gate)) [
  | inl q ↦ at_gate gate place r rs q (λ k. released_place gate zero k rs (AllPairs-later IsBefore r rs o) (begins_here gate r rs h))
  | inr q ↦
      let up : gate ≤ r.0 = h.after 0 r (omega arith) (omega arith) in
      let ne : r.0 ≡ gate → ⊥ = λ e. clash (eq-eqb r.0 gate e) q in
      let past : gate < r.0 = omega arith in
      let rest : All (λ y. gate < y.0) rs = All-weaker (IsBefore r) (λ y. gate < y.0) (λ y b. ⊎_elim (λ (z : r.0 < y.0). omega arith) (λ (z : (r.0 ≡ y.0) × (r.1 < y.1)). omega arith) b) rs (AllPairs-first IsBefore r rs o) in
      let none = not_this gate place (r ∷ rs) (All-cons (λ y. gate < y.0) r rs past rest) in
      rw none.1 (sym none.0)
]

pub gates_ascend : (rs : List (ℕ × ℕ)) → AllPairs IsBefore rs → IsNonDecreasingBy (λ r. r.0) rs
gates_ascend rs o i j d l m = elim (eqb_tells i j) [
  | inl p ↦ let e : (slice_index_or rs i d).0 ≡ (slice_index_or rs j d).0 = ap (λ k. (slice_index_or rs k d).0) p.1 in omega arith
  | inr p ↦
      let ne : i ≡ j → ⊥ = p.1 in
      let less : i < j = omega arith in
      ⊎_elim (λ (z : (slice_index_or rs i d).0 < (slice_index_or rs j d).0). omega arith) (λ (z : ((slice_index_or rs i d).0 ≡ (slice_index_or rs j d).0) × ((slice_index_or rs i d).1 < (slice_index_or rs j d).1)). omega arith) (o i j d less m)
]

below_gate : (x y : ℕ) → nat_lt x y ≡ true → x < y
below_gate x y h = grind (arith, nat_tests)

up_to_gate : (x y : ℕ) → nat_lt x y ≡ false → y ≤ x
up_to_gate x y h = grind (arith, nat_tests)

-- the place of the first entry with the gate
pub begins_at : (gate first : ℕ) (rs : List (ℕ × ℕ)) → IsPartitionPoint (λ r. nat_lt r.0 gate ≡ true) (λ r. nat_lt r.0 gate ≡ false) rs first → Begins gate first rs
begins_at gate first rs (before, after) = record {
  before = λ k d l. below_gate (slice_index_or rs k d).0 gate (before k d (omega arith) l);
  after = λ k d l m. up_to_gate (slice_index_or rs k d).0 gate (after k d l m);
}

picked_other : (gate releaser edge : ℕ) → (releaser ≡ gate → ⊥) → picked gate (Some (releaser, edge)) ≡ None
picked_other gate releaser edge ne = elim (decide (releaser == gate)) [ inl q ↦ absurd (ne (eqb-true releaser gate q)) | inr q ↦ rw q refl ]

module _ (gate first place : ℕ) (rs : List (ℕ × ℕ)) (o : AllPairs IsBefore rs) (h : Begins gate first rs) where
  pub release_none : None ≡ slice_get (drop first rs) place → None ≡ slice_get (released_by gate rs) place
  release_none e = sym (released_place gate first place rs o h ∙ ap (picked gate) (sym e))

  pub release_same : (r : ℕ × ℕ) → Some r ≡ slice_get (drop first rs) place → r.0 ≡ gate → Some r.1 ≡ slice_get (released_by gate rs) place
  release_same r e q = sym (released_place gate first place rs o h ∙ ap (picked gate) (sym e) ∙ rw (eq-eqb r.0 gate q) refl)

  pub release_other : (r : ℕ × ℕ) → Some r ≡ slice_get (drop first rs) place → (r.0 ≡ gate → ⊥) → None ≡ slice_get (released_by gate rs) place
  release_other r e ne = sym (released_place gate first place rs o h ∙ ap (picked gate) (sym e) ∙ picked_other gate r.0 r.1 ne)
