-- Each place is in its row once.
use Rattle.std.proofs.Common.{◌≡◌, ◌≢◌, ℕ, zero, suc, ◌+◌, ◌<◌, ◌≤◌, ◌⊎◌, inl, inr, Bool, true, false, ◌||◌, eqb, List, [], ◌∷◌, length, get_or, drop, set, refl, sym, arith, get_or-set_same, get_or-set_other}
use Rattle.std.proofs.lemmas.Bool.{cases_eq, cases_Bool, eq-eqb}
use Rattle.std.proofs.lemmas.Bool.Decides.{eqb_tells}
use Rattle.digraphs.specs.declared.digraph.Edge.{Edge}
use Rattle.digraphs.specs.Graph.{sources}
use Rattle.digraphs.specs.Rows.{places_from, places}
use Rattle.digraph_orders.specs.inner.Heads.{IsDone}
use Rattle.digraph_orders.specs.inner.Plans.{is_fresh, is_left, is_in}
use Rattle.digraph_orders.proofs.PlanLemmas.{eqb_false}

pub or_true : (x : Bool) → (x || true) ≡ true
or_true true = refl
or_true false = refl

pub or_false : (x : Bool) → (x || false) ≡ x
or_false true = refl
or_false false = refl

pub has_place : (v s : ℕ) (xs : List ℕ) (i j : ℕ) → i < length xs → get_or xs i 0 ≡ v → j ≡ s + i → is_in j (places_from v s xs) ≡ true
has_place v s [] i j h e is = absurd (omega arith)
has_place v s (x ∷ xs) zero j h e is =
    rw (eq-eqb x v e, eq-eqb s j (omega arith)) refl
has_place v s (x ∷ xs) (suc i) j h e is =
    let rest = has_place v (suc s) xs i j (omega arith) e (omega arith) in
    elim (eqb_tells x v) [
      | inl t ↦ rw (t.0, rest) (or_true (eqb s j))
      | inr t ↦ rw t.0 rest
    ]

pub has_sound : (v s : ℕ) (xs : List ℕ) (j : ℕ) → is_in j (places_from v s xs) ≡ true → (i : ℕ) × (i < length xs) × ((get_or xs i 0 ≡ v) × (j ≡ s + i))
has_sound v s [] j h = absurd (let c : true ≡ false = sym h in cc)
has_sound v s (x ∷ xs) j h =
    elim (eqb_tells x v) [
      | inl t ↦
          elim (eqb_tells s j) [
            | inl q ↦ (0, omega arith, (t.1, omega (arith, q.1)))
            | inr q ↦
                let h' : is_in j (places_from v (suc s) xs) ≡ true = rw (t.0, q.0) at h in
                let f = has_sound v (suc s) xs j h' in
                (suc f.0, omega (arith, f.1), (f.2.0, omega (arith, f.2.1)))
          ]
      | inr t ↦
          let h' : is_in j (places_from v (suc s) xs) ≡ true = rw t.0 at h in
          let f = has_sound v (suc s) xs j h' in
          (suc f.0, omega (arith, f.1), (f.2.0, omega (arith, f.2.1)))
    ]

pub has_not : (v s : ℕ) (xs : List ℕ) (j : ℕ) → j < s → is_in j (places_from v s xs) ≡ false
has_not v s xs j h = elim (cases_Bool (is_in j (places_from v s xs))) [ inr f ↦ f | inl t ↦ let f = has_sound v s xs j t in absurd (omega (arith, f.2.1)) ]

once_first : (s : ℕ) (rest : List ℕ) → is_in s rest ≡ false → ((k : ℕ) → k < length rest → is_in (get_or rest k 0) (drop (suc k) rest) ≡ false)
    → (k : ℕ) → k < length (s ∷ rest) → is_in (get_or (s ∷ rest) k 0) (drop k rest) ≡ false
once_first s rest off once zero h = off
once_first s rest off once (suc k) h = once k (omega arith)

pub place_once : (v s : ℕ) (xs : List ℕ) (k : ℕ) → k < length (places_from v s xs) → is_in (get_or (places_from v s xs) k 0) (drop (suc k) (places_from v s xs)) ≡ false
place_once v s [] k h = absurd (omega arith)
place_once v s (x ∷ xs) k h =
    elim (eqb_tells x v) [
      | inl t ↦
          let h' : k < length (s ∷ places_from v (suc s) xs) = rw t.0 at h in
          rw t.0 (once_first s (places_from v (suc s) xs) (has_not v (suc s) xs s (omega arith)) (place_once v (suc s) xs) k h')
      | inr t ↦
          let h' : k < length (places_from v (suc s) xs) = rw t.0 at h in
          rw t.0 (place_once v (suc s) xs k h')
    ]

pub has_drop : (row : List ℕ) (k i : ℕ) → k < length row → is_in i (drop k row) ≡ (eqb (get_or row k 0) i || is_in i (drop (suc k) row))
has_drop [] k i h = absurd (omega arith)
has_drop (x ∷ xs) zero i h = refl
has_drop (x ∷ xs) (suc k) i h = has_drop xs k i (omega arith)

pub drop_whole : (row : List ℕ) (k : ℕ) → length row ≤ k → drop k row ≡ []
drop_whole [] zero h = refl
drop_whole [] (suc k) h = refl
drop_whole (x ∷ xs) zero h = absurd (omega arith)
drop_whole (x ∷ xs) (suc k) h = drop_whole xs k (omega arith)

-- A mark that was just set is set.
pub done_same : (done : List Bool) (v : ℕ) → v < length done → IsDone (set done v true) v
done_same done v h = get_or-set_same done v true false h

pub done_kept : (done : List Bool) (v a : ℕ) → v < length done → IsDone done a → IsDone (set done v true) a
done_kept done v a h d = elim (cases_eq a v) [ inl e ↦ rw e (done_same done v h) | inr ne ↦ rw (get_or-set_other done v a true false ne) d ]

pub done_which : (done : List Bool) (v a : ℕ) → IsDone (set done v true) a → (a ≡ v) ⊎ IsDone done a
done_which done v a d = elim (cases_eq a v) [ inl e ↦ inl e | inr ne ↦ inr (rw (get_or-set_other done v a true false ne) at d) ]

-- Once `v` is marked, its out-edges are left in its place.
pub left_start : (es : List Edge) (done : List Bool) (v : ℕ) → ¬ IsDone done v → v < length done → (i : ℕ) → i < length (sources es) → is_left es (set done v true) (places v (sources es)) 0 i ≡ is_fresh es done i
left_start es done v fresh lv i h =
    elim (cases_eq (get_or (sources es) i 0) v) [
      | inl e ↦
          let off : get_or done v false ≡ false = elim (cases_Bool (get_or done v false)) [ inl t ↦ absurd (fresh t) | inr f ↦ f ] in
          let on = has_place v 0 (sources es) i i h e (omega arith) in
          rw (on, e, off) (or_true _)
      | inr ne ↦
          let off : is_in i (places v (sources es)) ≡ false = elim (cases_Bool (is_in i (places v (sources es)))) [
            | inr f ↦ f
            | inl t ↦
                let f = has_sound v 0 (sources es) i t in
                let is : i ≡ f.0 = omega (arith, f.2.1) in
                absurd (ne (rw (sym is) at f.2.0))
          ] in
          rw (off, get_or-set_other done v (get_or (sources es) i 0) true false ne) (or_false _)
    ]

pub left_end : (es : List Edge) (done : List Bool) (row : List ℕ) (k : ℕ) → length row ≤ k → (i : ℕ) → is_fresh es done i ≡ is_left es done row k i
left_end es done row k h i = rw (drop_whole row k h) (sym (or_false _))

-- The edge at place `k` is removed from those left.
pub record Steps (p n : ℕ) (left next : ℕ → Bool) : Type 0 where
  pub within : p < n
  pub on : left p ≡ true
  pub off : next p ≡ false
  pub others : (i : ℕ) → i ≢ p → next i ≡ left i

pub left_step : (es : List Edge) (done : List Bool) (v k : ℕ) → IsDone done v → k < length (places v (sources es)) → get_or (places v (sources es)) k 0 < length es → get_or (sources es) (get_or (places v (sources es)) k 0) 0 ≡ v
    → Steps (get_or (places v (sources es)) k 0) (length es) (is_left es done (places v (sources es)) k) (is_left es done (places v (sources es)) (suc k))
left_step es done v k d h inside from =
    let row = places v (sources es) in
    let p = get_or row k 0 in
    record {
      within = inside;
      on = rw (has_drop row k p h, eq-eqb p p refl) (or_true _);
      off = let once = place_once v 0 (sources es) k h in rw (once, from, d) refl;
      others = λ i ne. rw (has_drop row k i h, eqb_false p i (λ e. ne (sym e))) refl;
    }
