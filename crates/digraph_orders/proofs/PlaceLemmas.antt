-- The elements of a list of places.
use Rattle.std.proofs.Common.{◌≡◌, ℕ, zero, suc, ◌+◌, ◌<◌, inl, inr, true, List, [], ◌∷◌, length, get_or, refl, ap, sym, ◌∙◌, subst, arith, All}
use Rattle.std.proofs.lemmas.Bool.Decides.{eqb_tells}
use Rattle.std.proofs.lemmas.Bool.{eq-eqb}
use Rattle.std.proofs.lemmas.List.{get_or-map, length-map}
use Rattle.std.proofs.lemmas.List.Elements.{All-from_get_or, Contains-get_or}
use Rattle.digraphs.specs.declared.digraph.Edge.{Edge}
use Rattle.digraphs.specs.Graph.{sources, targets}
use Rattle.digraph_orders.specs.inner.NodeEdges.{target_at, source_at}
use Rattle.digraphs.specs.Rows.{places_from, places}
use Rattle.digraphs.specs.Paths.{HasEdge}

-- `p` is a place of `v`.
record IsPlace (v s : ℕ) (xs : List ℕ) (p : ℕ) : Type 0 where
  pub from : ℕ
  pub is : p ≡ s + from
  pub within : from < length xs
  pub at : get_or xs from 0 ≡ v

later : {v s x p : ℕ} {xs : List ℕ} → IsPlace v (suc s) xs p → IsPlace v s (x ∷ xs) p
later h = record { from = suc h.from; is = omega (arith, h.is); within = omega (arith, h.within); at = h.at }

places_from_sound : (v s : ℕ) (xs : List ℕ) (j : ℕ) → j < length (places_from v s xs) → IsPlace v s xs (get_or (places_from v s xs) j 0)
places_from_sound v s [] j h = absurd (omega arith)
places_from_sound v s (x ∷ xs) zero h =
    elim (eqb_tells x v) [
      | inl e ↦
          let shape : s ∷ places_from v (suc s) xs ≡ places_from v s (x ∷ xs) = rw e.0 refl in
          subst (λ l. IsPlace v s (x ∷ xs) (get_or l 0 0)) shape (record { from = 0; is = omega arith; within = omega arith; at = e.1 })
      | inr e ↦
          let shape : places_from v (suc s) xs ≡ places_from v s (x ∷ xs) = rw e.0 refl in
          subst (λ l. IsPlace v s (x ∷ xs) (get_or l 0 0)) shape (later (places_from_sound v (suc s) xs 0 (subst (λ l. 0 < length l) (sym shape) h)))
    ]
places_from_sound v s (x ∷ xs) (suc j) h =
    elim (eqb_tells x v) [
      | inl e ↦
          let shape : s ∷ places_from v (suc s) xs ≡ places_from v s (x ∷ xs) = rw e.0 refl in
          let longer : suc j < length (s ∷ places_from v (suc s) xs) = subst (λ l. suc j < length l) (sym shape) h in
          subst (λ l. IsPlace v s (x ∷ xs) (get_or l (suc j) 0)) shape (later (places_from_sound v (suc s) xs j (omega arith)))
      | inr e ↦
          let shape : places_from v (suc s) xs ≡ places_from v s (x ∷ xs) = rw e.0 refl in
          subst (λ l. IsPlace v s (x ∷ xs) (get_or l (suc j) 0)) shape (later (places_from_sound v (suc s) xs (suc j) (subst (λ l. suc j < length l) (sym shape) h)))
    ]

-- Place `i` is listed.
record IsListed (v s : ℕ) (xs : List ℕ) (i : ℕ) : Type 0 where
  pub at : ℕ
  pub within : at < length (places_from v s xs)
  pub is : get_or (places_from v s xs) at 0 ≡ s + i

places_from_complete : (v s : ℕ) (xs : List ℕ) (i : ℕ) → i < length xs → get_or xs i 0 ≡ v → IsListed v s xs i
places_from_complete v s [] i h e = absurd (omega arith)
places_from_complete v s (x ∷ xs) zero h e =
    let shape : s ∷ places_from v (suc s) xs ≡ places_from v s (x ∷ xs) = rw (eq-eqb x v e) refl in
    record {
      at = 0;
      within = subst (λ l. 0 < length l) shape (omega arith);
      is = subst (λ l. get_or l 0 0 ≡ s + 0) shape (omega arith);
    }
places_from_complete v s (x ∷ xs) (suc i) h e =
    let rest = places_from_complete v (suc s) xs i (omega arith) e in
    elim (eqb_tells x v) [
      | inl t ↦
          let shape : s ∷ places_from v (suc s) xs ≡ places_from v s (x ∷ xs) = rw t.0 refl in
          record {
            at = suc rest.at;
            within = subst (λ l. suc rest.at < length l) shape (omega (arith, rest.within));
            is = subst (λ l. get_or l (suc rest.at) 0 ≡ s + suc i) shape (omega (arith, rest.is));
          }
      | inr t ↦
          let shape : places_from v (suc s) xs ≡ places_from v s (x ∷ xs) = rw t.0 refl in
          record {
            at = rest.at;
            within = subst (λ l. rest.at < length l) shape rest.within;
            is = subst (λ l. get_or l rest.at 0 ≡ s + suc i) shape (omega (arith, rest.is));
          }
    ]

-- Each listed place is within the list, and `v` is there.
pub places_within : (v : ℕ) (xs : List ℕ) (k : ℕ) → k < length (places v xs) → (get_or (places v xs) k 0 < length xs) × (get_or xs (get_or (places v xs) k 0) 0 ≡ v)
places_within v xs k h =
    let p = places_from_sound v 0 xs k h in
    let e : get_or (places v xs) k 0 ≡ p.from = omega (arith, p.is) in
    (omega (arith, p.within), rw e p.at)

pub All-places : (v : ℕ) (xs : List ℕ) → All (λ k. k < length xs) (places v xs)
All-places v xs = All-from_get_or (λ k. k < length xs) (places v xs) 0 (λ i h. (places_within v xs i h).0)

no_edge : Edge
no_edge = record { from = 0; to = 0; non_dev = true }

-- The `k`-th edge that leaves `a` is an edge from `a`.
pub edge_at : (es : List Edge) (a k : ℕ) → k < length (places a (sources es)) → HasEdge es a (target_at es a k)
edge_at es a k h =
    let p = places_within a (sources es) k h in
    let number = get_or (places a (sources es)) k 0 in
    let inside : number < length es = rw (length-map es (λ (e : Edge). e.from)) at p.0 in
    record {
      edge = get_or es number no_edge;
      listed = Contains-get_or es number no_edge inside;
      from = sym (get_or-map (λ (e : Edge). e.from) es number no_edge 0 inside) ∙ p.1;
      to = sym (get_or-map (λ (e : Edge). e.to) es number no_edge 0 inside);
    }

-- Each edge from `a` is one of the edges that leave it.
pub edge_found : (es : List Edge) (a b : ℕ) → HasEdge es a b → (k : ℕ) × (k < length (places a (sources es))) × (target_at es a k ≡ b)
edge_found es a b e =
    let number = e.listed.0 in
    let inside : number < length es = e.listed.1 in
    let long : length (sources es) ≡ length es = length-map es (λ (d : Edge). d.from) in
    let from : get_or (sources es) number 0 ≡ a = get_or-map (λ (d : Edge). d.from) es number e.edge 0 inside ∙ ap (λ (d : Edge). d.from) e.listed.2 ∙ e.from in
    let to : get_or (targets es) number 0 ≡ b = get_or-map (λ (d : Edge). d.to) es number e.edge 0 inside ∙ ap (λ (d : Edge). d.to) e.listed.2 ∙ e.to in
    let l = places_from_complete a 0 (sources es) number (omega (arith, long)) from in
    let is : get_or (places a (sources es)) l.at 0 ≡ number = omega (arith, l.is) in
    (l.at, l.within, rw is to)

-- The `k`-th edge that enters `b` is an edge to `b`.
pub edge_into_at : (es : List Edge) (b k : ℕ) → k < length (places b (targets es)) → HasEdge es (source_at es b k) b
edge_into_at es b k h =
    let p = places_within b (targets es) k h in
    let number = get_or (places b (targets es)) k 0 in
    let inside : number < length es = rw (length-map es (λ (e : Edge). e.to)) at p.0 in
    record {
      edge = get_or es number no_edge;
      listed = Contains-get_or es number no_edge inside;
      from = sym (get_or-map (λ (e : Edge). e.from) es number no_edge 0 inside);
      to = sym (get_or-map (λ (e : Edge). e.to) es number no_edge 0 inside) ∙ p.1;
    }

-- Each edge to `b` is one of the edges that enter it.
pub edge_into_found : (es : List Edge) (a b : ℕ) → HasEdge es a b → (k : ℕ) × (k < length (places b (targets es))) × (source_at es b k ≡ a)
edge_into_found es a b e =
    let number = e.listed.0 in
    let inside : number < length es = e.listed.1 in
    let long : length (targets es) ≡ length es = length-map es (λ (d : Edge). d.to) in
    let from : get_or (sources es) number 0 ≡ a = get_or-map (λ (d : Edge). d.from) es number e.edge 0 inside ∙ ap (λ (d : Edge). d.from) e.listed.2 ∙ e.from in
    let to : get_or (targets es) number 0 ≡ b = get_or-map (λ (d : Edge). d.to) es number e.edge 0 inside ∙ ap (λ (d : Edge). d.to) e.listed.2 ∙ e.to in
    let l = places_from_complete b 0 (targets es) number (omega (arith, long)) to in
    let is : get_or (places b (targets es)) l.at 0 ≡ number = omega (arith, l.is) in
    (l.at, l.within, rw is from)
