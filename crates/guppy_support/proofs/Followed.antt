-- The edges that start at a node, one after the other.
use Rattle.std.proofs.Common.{◌≡◌, ℕ, ◌+◌, ◌-◌, ◌<◌, ◌≤◌, inl, inr, Bool, true, false, List, length, get_or, set, ap, sym, ◌∙◌, refl, subst, arith, Some, None}
use Rattle.std.specs.Prelude.{slice_get}
use Rattle.std.specs.List.{range_with_len}
use Rattle.std.proofs.lemmas.List.FromFn.{length-range_with_len}
use Rattle.std.proofs.lemmas.Bool.{cases_lt}
use Rattle.std.proofs.lemmas.List.{get_or-map, length-map, get_or_default}
use Rattle.std.proofs.lemmas.List.Elements.{Contains-get_or}
use Rattle.digraphs.specs.declared.digraph.Edge.{Edge}
use Rattle.digraphs.specs.Graph.{sources, targets}
use Rattle.digraphs.specs.Rows.{places}
use Rattle.digraphs.specs.Paths.{HasEdge, Path, nowhere as path_end, onward as path_on}
use Rattle.guppy_support.specs.declared.reading.Reading.{Reading}
use Rattle.guppy_support.specs.declared.reading.Reading.TheVariants.{Forward, Backward}
use Rattle.guppy_support.specs.Views.{starting, start_of, end_of}
use Rattle.guppy_support.specs.Reaches.{Along, nowhere, onward, FollowedStep}
use Rattle.guppy_support.specs.inner.Search.{Finds, EndsAt, LeadsTo}
use Rattle.guppy_support.proofs.Places.{get_range, get_some, place_listed, starts_at, within_some}
use Rattle.guppy_support.proofs.SearchLemmas.{finds_none, finds_alike, finds_both, found_one, listed}

-- ---- one edge

pub end_found : (r : Reading) (es : List Edge) (follows : ℕ → Bool) (k : ℕ) (old found : List Bool) (was waiting : List ℕ) (t : ℕ) → follows k ≡ true → t ≡ end_of r es k → t < length old
    → found ≡ set old t true → waiting ≡ listed old was t → Finds (EndsAt r es follows k) old was found waiting
end_found r es follows k old found was waiting t taken is l f w =
    finds_alike (λ v e. record { followed = taken; end = sym (e ∙ is) }) (λ v e. sym e.end ∙ sym is) (found_one old found was waiting t l f w)

-- ---- the edges of a node

module _ (r : Reading) (es : List Edge) (follows : ℕ → Bool) (node : ℕ) where
  pub follow_none : (count : ℕ) (found : List Bool) (waiting : List ℕ) → count ≡ 0 → Finds (LeadsTo r es follows node count) found waiting found waiting
  follow_none count found waiting z = finds_alike (λ v e. absurd e) (λ v e. absurd (omega (arith, e.below, z))) (finds_none found waiting)

  pub follow_more : (i count k : ℕ) (old mid found : List Bool) (was between waiting : List ℕ) → count ≡ i + 1 → slice_get (starting r es node) i ≡ Some k
      → Finds (LeadsTo r es follows node i) old was mid between → Finds (EndsAt r es follows k) mid between found waiting → Finds (LeadsTo r es follows node count) old was found waiting
  follow_more i count k old mid found was between waiting next is f g =
      finds_alike
      (λ v e. elim e [
        | inl p ↦ record { place = p.place; below = omega (arith, p.below, next); number = p.number; is = p.is; ends = p.ends }
        | inr q ↦ record { place = i; below = omega (arith, next); number = k; is = is; ends = q }
      ])
      (λ v e. elim (cases_lt e.place i) [
        | inl less ↦ inl (record { place = e.place; below = less; number = e.number; is = e.is; ends = e.ends })
        | inr past ↦
            let same : e.place ≡ i = omega (arith, e.below, next, past) in
            let number : Some e.number ≡ Some k = sym e.is ∙ ap (slice_get (starting r es node)) same ∙ is in
            let equal : e.number ≡ k = cc in
            inr (subst (λ (x : ℕ). EndsAt r es follows x v) equal e.ends)
      ])
      (finds_both f g)

-- Each edge that starts at a node is listed.
pub starts_listed : (r : Reading) (es : List Edge) (v k : ℕ) → k < length es → start_of r es k ≡ v → (i : ℕ) × (slice_get (starting r es v) i ≡ Some k)
starts_listed Forward es v k h from = let p = place_listed v 0 (sources es) k (omega (arith, h, length-map es (λ (x : Edge). x.from))) from in let zero_on : 0 + k ≡ k = omega arith in (p.at, p.is ∙ ap Some zero_on)
starts_listed Backward es v k h to = let p = place_listed v 0 (targets es) k (omega (arith, h, length-map es (λ (x : Edge). x.to))) to in let zero_on : 0 + k ≡ k = omega arith in (p.at, p.is ∙ ap Some zero_on)

pub follow_all : (r : Reading) (es : List Edge) (follows : ℕ → Bool) (node count : ℕ) (old found : List Bool) (was waiting : List ℕ) → length (starting r es node) ≤ count
    → Finds (LeadsTo r es follows node count) old was found waiting → Finds (FollowedStep r es follows node) old was found waiting
follow_all r es follows node count old found was waiting all h =
    finds_alike
    (λ v e. let s = starts_at r es node e.place e.number e.is in record { edge = e.number; within = s.within; followed = e.ends.followed; start = s.start; end = e.ends.end })
    (λ v e.
    let p = starts_listed r es node e.edge e.within e.start in
    record { place = p.0; below = let w = within_some (starting r es node) p.0 e.edge p.1 in omega (arith, w, all); number = e.edge; is = p.1; ends = record { followed = e.followed; end = e.end } })
    h

-- The numbers of the edges that start at a node, where they are a range.
pub number_out : (es : List Edge) (node low high k : ℕ) → range_with_len low (high - low) ≡ places node (sources es) → low ≤ k → k < high → slice_get (starting Forward es node) (k - low) ≡ Some k
number_out es node low high k numbers from below =
    let back : low + (k - low) ≡ k = omega (arith, from) in
    ap (λ xs. slice_get xs (k - low)) (sym numbers) ∙ get_range low (high - low) (k - low) (omega (arith, from, below)) ∙ ap Some back

pub count_out : (es : List Edge) (node low high : ℕ) → range_with_len low (high - low) ≡ places node (sources es) → length (starting Forward es node) ≡ high - low
count_out es node low high numbers = ap length (sym numbers) ∙ length-range_with_len low (high - low)

pub past_end : (xs : List ℕ) (i : ℕ) → slice_get xs i ≡ None → length xs ≤ i
past_end xs i e = elim (cases_lt i (length xs)) [ inl l ↦ (let clash : Some (get_or xs i 0) ≡ None = sym (get_some xs i l) ∙ e in absurd (cc)) | inr p ↦ p ]

-- ---- steps along all edges

no_edge : Edge
no_edge = record { from = 0; to = 0; non_dev = false }

pub step_edge : (es : List Edge) (follows : ℕ → Bool) (u v : ℕ) → FollowedStep Forward es follows u v → HasEdge es u v
step_edge es follows u v s = record {
  edge = get_or es s.edge no_edge;
  listed = Contains-get_or es s.edge no_edge s.within;
  from = sym (get_or-map (λ (x : Edge). x.from) es s.edge no_edge 0 s.within) ∙ s.start;
  to = sym (get_or-map (λ (x : Edge). x.to) es s.edge no_edge 0 s.within) ∙ s.end;
}

pub edge_step : (es : List Edge) (u v : ℕ) → HasEdge es u v → FollowedStep Forward es (λ _. true) u v
edge_step es u v e =
    let k = e.listed.0 in
    let edge : get_or es k no_edge ≡ e.edge = get_or_default es k no_edge e.edge e.listed.1 ∙ e.listed.2 in
    record {
      edge = k;
      within = e.listed.1;
      followed = refl;
      start = get_or-map (λ (x : Edge). x.from) es k no_edge 0 e.listed.1 ∙ ap (λ (x : Edge). x.from) edge ∙ e.from;
      end = get_or-map (λ (x : Edge). x.to) es k no_edge 0 e.listed.1 ∙ ap (λ (x : Edge). x.to) edge ∙ e.to;
    }

pub along_path : {es : List Edge} {follows : ℕ → Bool} {u v : ℕ} → Along (FollowedStep Forward es follows) u v → Path es u v
along_path nowhere = path_end
along_path {es} {follows} (onward {u = a} {v = b} s rest) = path_on (step_edge es follows a b s) (along_path rest)

pub path_along : {es : List Edge} {u v : ℕ} → Path es u v → Along (FollowedStep Forward es (λ _. true)) u v
path_along path_end = nowhere
path_along {es} (path_on {a = a} {b = b} e rest) = onward (edge_step es a b e) (path_along rest)
