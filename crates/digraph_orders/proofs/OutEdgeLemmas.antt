-- The edges that leave a node, and lists with one more element.
use Rattle.std.proofs.Common.{◌≡◌, ℕ, ◌+◌, ◌-◌, ◌<◌, List, [], ◌∷◌, ◌++◌, length, get_or, ap, sym, ◌∙◌, arith, length-append, Some, slice_get}
use Rattle.std.proofs.lemmas.List.{get_or-map, length-map, get_or_append_left, get_or_at}
use Rattle.std.specs.List.{range_with_len}
use Rattle.std.proofs.lemmas.List.FromFn.{length-range_with_len, get_or-range_with_len}
use Rattle.digraphs.specs.Graph.{Graph, IsDigraph, sources}
use Rattle.digraph_orders.specs.inner.NodeEdges.{target_at}
use Rattle.digraphs.specs.Rows.{places}
use Rattle.digraphs.specs.Paths.{HasEdge}
use Rattle.digraph_orders.proofs.PlaceLemmas.{edge_at, places_within}
use Rattle.digraphs.specs.declared.digraph.Edge.{Edge}
use Rattle.std.proofs.lemmas.Option.{slice_get-get_or}
use Rattle.digraphs.proofs.FaultLemmas.{nodes_of_edge}

pub at_left : (xs : List ℕ) (x i : ℕ) → i < length xs → get_or (xs ++ x ∷ []) i 0 ≡ get_or xs i 0
at_left xs x i h = get_or_append_left xs (x ∷ []) 0 i h

pub at_last : (xs : List ℕ) (x i : ℕ) → i ≡ length xs → get_or (xs ++ x ∷ []) i 0 ≡ x
at_last xs x i e = get_or_at xs x [] 0 i (sym e)

pub length_push : (xs : List ℕ) (x : ℕ) → length (xs ++ x ∷ []) ≡ length xs + 1
length_push xs x = length-append xs (x ∷ [])

pub place_inside : (g : Graph) (v k : ℕ) → k < length (places v (sources g.edges)) → get_or (places v (sources g.edges)) k 0 < length g.edges
place_inside g v k h = rw (length-map g.edges (λ (e : Edge). e.from)) at (places_within v (sources g.edges) k h).0

pub record IsEdgeTo (g : Graph) (v k to : ℕ) : Type 0 where
  pub value : to ≡ target_at g.edges v k
  pub node : to < g.nodes
  pub edge : HasEdge g.edges v to

pub edge_to : (g : Graph) (v k : ℕ) (e : Edge) → IsDigraph g → k < length (places v (sources g.edges)) → slice_get g.edges (get_or (places v (sources g.edges)) k 0) ≡ Some e → IsEdgeTo g v k e.to
edge_to g v k e ok h got =
    let number = get_or (places v (sources g.edges)) k 0 in
    let inside = place_inside g v k h in
    let read : slice_get g.edges number ≡ Some (get_or g.edges number e) = slice_get-get_or g.edges number e inside in
    let same : get_or g.edges number e ≡ e = cc in
    let value : target_at g.edges v k ≡ e.to = get_or-map (λ (d : Edge). d.to) g.edges number e 0 inside ∙ ap (λ (d : Edge). d.to) same in
    let edge : HasEdge g.edges v e.to = rw value at (edge_at g.edges v k h) in
    record { value = sym value; node = (nodes_of_edge g ok edge).1; edge = edge }

-- The edges that leave `v` are consecutive: the `k`-th has number `first + k`.
pub out_number : (g : Graph) (v k first last : ℕ) → range_with_len first (last - first) ≡ places v (sources g.edges) → k < length (places v (sources g.edges)) → first + k ≡ get_or (places v (sources g.edges)) k 0
out_number g v k first last e h =
    let long : k < last - first = omega (arith, ap length e, length-range_with_len first (last - first)) in
    sym (ap (λ (l : List ℕ). get_or l k 0) (sym e) ∙ get_or-range_with_len first (last - first) k 0 long)

pub out_length : (g : Graph) (v first last : ℕ) → range_with_len first (last - first) ≡ places v (sources g.edges) → length (places v (sources g.edges)) ≡ last - first
out_length g v first last e = omega (arith, ap length e, length-range_with_len first (last - first))
