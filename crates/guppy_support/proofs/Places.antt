-- The places of a number in a list, and the edges that start at a node.
use Rattle.std.proofs.Common.{◌≡◌, ℕ, suc, zero, ◌+◌, ◌<◌, ◌≤◌, inl, inr, List, [], ◌∷◌, length, get_or, drop, refl, ap, sym, ◌∙◌, subst, arith, Some, None, All}
use Rattle.std.specs.Prelude.{slice_get, ◌==◌}
use Rattle.std.specs.List.{range_with_len}
use Rattle.std.proofs.lemmas.Bool.{cases_Bool, eqb-true, eq-eqb}
use Rattle.std.proofs.lemmas.List.{length-map}
use Rattle.std.proofs.lemmas.List.Elements.{All-from_get_or}
use Rattle.digraphs.specs.declared.digraph.Edge.{Edge}
use Rattle.digraphs.specs.Graph.{Graph, IsDigraph, sources, targets}
use Rattle.digraphs.specs.Rows.{places, places_from}
use Rattle.guppy_support.specs.declared.reading.Reading.{Reading}
use Rattle.guppy_support.specs.declared.reading.Reading.TheVariants.{Forward, Backward}
use Rattle.guppy_support.specs.Views.{starting, start_of, end_of}

-- ---- an element by its place

pub get_range : (a n i : ℕ) → i < n → slice_get (range_with_len a n) i ≡ Some (a + i)
get_range a zero i h = absurd (omega arith)
get_range a (suc n) zero h = let e : a ≡ a + 0 = omega arith in ap Some e
get_range a (suc n) (suc i) h = let e : a + 1 + i ≡ a + suc i = omega arith in get_range (a + 1) n i (omega arith) ∙ ap Some e

pub get_range_past : (a n i : ℕ) → n ≤ i → slice_get (range_with_len a n) i ≡ None
get_range_past a zero i h = refl
get_range_past a (suc n) zero h = absurd (omega arith)
get_range_past a (suc n) (suc i) h = get_range_past (a + 1) n i (omega arith)

pub rest_some : {X : Type 0} (xs : List X) (i : ℕ) (x : X) → slice_get xs i ≡ Some x → drop i xs ≡ x ∷ drop (i + 1) xs
rest_some [] i x e = absurd (cc)
rest_some (y ∷ ys) zero x e = let same : y ≡ x = cc in ap (λ z. z ∷ ys) same
rest_some (y ∷ ys) (suc i) x e = rest_some ys i x e ∙ (let n : suc (i + 1) ≡ suc i + 1 = omega arith in ap (λ k. x ∷ drop k (y ∷ ys)) n)

pub within_some : (xs : List ℕ) (i x : ℕ) → slice_get xs i ≡ Some x → i < length xs
within_some [] i x e = absurd (cc)
within_some (y ∷ ys) zero x e = omega arith
within_some (y ∷ ys) (suc i) x e = let h = within_some ys i x e in omega arith

pub rest_none : (xs : List ℕ) (i : ℕ) → slice_get xs i ≡ None → drop i xs ≡ []
rest_none [] zero e = refl
rest_none [] (suc i) e = refl
rest_none (y ∷ ys) zero e = absurd (cc)
rest_none (y ∷ ys) (suc i) e = rest_none ys i e

pub get_some : (xs : List ℕ) (i : ℕ) → i < length xs → slice_get xs i ≡ Some (get_or xs i 0)
get_some [] i h = absurd (omega arith)
get_some (x ∷ xs) zero h = refl
get_some (x ∷ xs) (suc i) h = get_some xs i (omega arith)

pub get_past : (xs : List ℕ) (i : ℕ) → length xs ≤ i → slice_get xs i ≡ None
get_past [] i h = refl
get_past (x ∷ xs) zero h = absurd (omega arith)
get_past (x ∷ xs) (suc i) h = get_past xs i (omega arith)

-- ---- the places of v

-- `p` is a place of `v`, where the list begins at place `s`.
pub record IsPlace (v s : ℕ) (xs : List ℕ) (p : ℕ) : Type 0 where
  pub from : ℕ
  pub is : p ≡ s + from
  pub within : from < length xs
  pub at : get_or xs from 0 ≡ v

later : {v s x p : ℕ} {xs : List ℕ} → IsPlace v (suc s) xs p → IsPlace v s (x ∷ xs) p
later h = record { from = suc h.from; is = omega (arith, h.is); within = omega (arith, h.within); at = h.at }

pub place_from : (v s : ℕ) (xs : List ℕ) (i p : ℕ) → slice_get (places_from v s xs) i ≡ Some p → IsPlace v s xs p
place_from v s [] i p e = absurd (cc)
place_from v s (x ∷ xs) zero p e =
    elim (cases_Bool (x == v)) [
      | inl here ↦
          let shape : s ∷ places_from v (suc s) xs ≡ places_from v s (x ∷ xs) = rw here refl in
          let first : slice_get (s ∷ places_from v (suc s) xs) 0 ≡ Some p = ap (λ l. slice_get l 0) shape ∙ e in
          let same : s ≡ p = cc in
          record { from = 0; is = omega arith; within = omega arith; at = eqb-true x v here }
      | inr gone ↦
          let shape : places_from v (suc s) xs ≡ places_from v s (x ∷ xs) = rw gone refl in
          later (place_from v (suc s) xs 0 p (ap (λ l. slice_get l 0) shape ∙ e))
    ]
place_from v s (x ∷ xs) (suc i) p e =
    elim (cases_Bool (x == v)) [
      | inl here ↦
          let shape : s ∷ places_from v (suc s) xs ≡ places_from v s (x ∷ xs) = rw here refl in
          later (place_from v (suc s) xs i p (ap (λ l. slice_get l (suc i)) shape ∙ e))
      | inr gone ↦
          let shape : places_from v (suc s) xs ≡ places_from v s (x ∷ xs) = rw gone refl in
          later (place_from v (suc s) xs (suc i) p (ap (λ l. slice_get l (suc i)) shape ∙ e))
    ]

-- `p` is a place of `v`.
pub record IsPlaceOf (v : ℕ) (xs : List ℕ) (p : ℕ) : Type 0 where
  pub within : p < length xs
  pub at : get_or xs p 0 ≡ v

pub place_is : (v : ℕ) (xs : List ℕ) (i p : ℕ) → slice_get (places v xs) i ≡ Some p → IsPlaceOf v xs p
place_is v xs i p e =
    let h = place_from v 0 xs i p e in
    let same : h.from ≡ p = omega (arith, h.is) in
    record { within = omega (arith, h.within); at = subst (λ k. get_or xs k 0 ≡ v) same h.at }

-- Place `i` of `v` is listed.
pub record IsListed (v s : ℕ) (xs : List ℕ) (i : ℕ) : Type 0 where
  pub at : ℕ
  pub is : slice_get (places_from v s xs) at ≡ Some (s + i)

pub place_listed : (v s : ℕ) (xs : List ℕ) (i : ℕ) → i < length xs → get_or xs i 0 ≡ v → IsListed v s xs i
place_listed v s [] i h e = absurd (omega arith)
place_listed v s (x ∷ xs) zero h e =
    let shape : s ∷ places_from v (suc s) xs ≡ places_from v s (x ∷ xs) = rw (eq-eqb x v e) refl in
    let n : s ≡ s + 0 = omega arith in
    record { at = 0; is = ap (λ l. slice_get l 0) (sym shape) ∙ ap Some n }
place_listed v s (x ∷ xs) (suc i) h e =
    let rest = place_listed v (suc s) xs i (omega arith) e in
    let n : suc s + i ≡ s + suc i = omega arith in
    elim (cases_Bool (x == v)) [
      | inl here ↦
          let shape : s ∷ places_from v (suc s) xs ≡ places_from v s (x ∷ xs) = rw here refl in
          record { at = suc rest.at; is = ap (λ l. slice_get l (suc rest.at)) (sym shape) ∙ rest.is ∙ ap Some n }
      | inr gone ↦
          let shape : places_from v (suc s) xs ≡ places_from v s (x ∷ xs) = rw gone refl in
          record { at = rest.at; is = ap (λ l. slice_get l rest.at) (sym shape) ∙ rest.is ∙ ap Some n }
    ]

-- ---- edges by their start

pub starting_forward : (r : Reading) (es : List Edge) (v : ℕ) → r ≡ Forward → places v (sources es) ≡ starting r es v
starting_forward r es v e = subst (λ q. places v (sources es) ≡ starting q es v) (sym e) refl

pub starting_backward : (r : Reading) (es : List Edge) (v : ℕ) → r ≡ Backward → places v (targets es) ≡ starting r es v
starting_backward r es v e = subst (λ q. places v (targets es) ≡ starting q es v) (sym e) refl

-- Edge `k` starts at `v`.
pub record StartsAt (r : Reading) (es : List Edge) (v k : ℕ) : Type 0 where
  pub within : k < length es
  pub start : start_of r es k ≡ v

pub starts_at : (r : Reading) (es : List Edge) (v i k : ℕ) → slice_get (starting r es v) i ≡ Some k → StartsAt r es v k
starts_at Forward es v i k e =
    let h = place_is v (sources es) i k e in
    record { within = omega (arith, h.within, length-map es (λ (x : Edge). x.from)); start = h.at }
starts_at Backward es v i k e =
    let h = place_is v (targets es) i k e in
    record { within = omega (arith, h.within, length-map es (λ (x : Edge). x.to)); start = h.at }

pub start_within : (r : Reading) (g : Graph) → IsDigraph g → (k : ℕ) → k < length g.edges → start_of r g.edges k < g.nodes
start_within Forward g ok k h = (ok k h).nodes.from
start_within Backward g ok k h = (ok k h).nodes.to

pub end_within : (r : Reading) (g : Graph) → IsDigraph g → (k : ℕ) → k < length g.edges → end_of r g.edges k < g.nodes
end_within Forward g ok k h = (ok k h).nodes.to
end_within Backward g ok k h = (ok k h).nodes.from

pub starting_within : (r : Reading) (es : List Edge) (v : ℕ) → All (λ k. k < length es) (starting r es v)
starting_within r es v = All-from_get_or (λ k. k < length es) (starting r es v) 0 (λ i h. (starts_at r es v i (get_or (starting r es v) i 0) (get_some (starting r es v) i h)).within)
