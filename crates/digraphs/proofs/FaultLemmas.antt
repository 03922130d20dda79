-- Properties of a list of edges without a fault.
use Rattle.std.proofs.Common.{◌≡◌, ℕ, zero, suc, ◌+◌, ◌-◌, ◌<◌, ◌≤◌, List, refl, sym, ◌∙◌, ap, length, get_or, ◌⊎◌, inl, inr, arith, Some, slice_get}
use Rattle.std.proofs.lemmas.Bool.{cases_eq, cases_order}
use Rattle.std.proofs.lemmas.List.{get_or-map, length-map}
use Rattle.std.proofs.lemmas.Option.{get_or_from_slice_get}
use Rattle.digraphs.specs.declared.digraph.Edge.{Edge}
use Rattle.digraphs.specs.Graph.{Graph, IsDigraph, IsBefore, ComesAfter, IsSound, sources, targets, source_of, target_of}
use Rattle.digraphs.specs.Paths.{HasEdge}

pub source_is : (es : List Edge) (k : ℕ) (e : Edge) → k < length es → e ≡ get_or es k e → source_of es k ≡ e.from
source_is es k e l is = get_or-map (λ (d : Edge). d.from) es k e 0 l ∙ ap (λ (d : Edge). d.from) (sym is)

pub target_is : (es : List Edge) (k : ℕ) (e : Edge) → k < length es → e ≡ get_or es k e → target_of es k ≡ e.to
target_is es k e l is = get_or-map (λ (d : Edge). d.to) es k e 0 l ∙ ap (λ (d : Edge). d.to) (sym is)

-- The source and the target of edge `k`, from a read with `slice_get`.
pub source_got : (es : List Edge) (k : ℕ) (e : Edge) → k < length es → slice_get es k ≡ Some e → source_of es k ≡ e.from
source_got es k e l got = source_is es k e l (sym (get_or_from_slice_get es k e e got))

pub target_got : (es : List Edge) (k : ℕ) (e : Edge) → k < length es → slice_get es k ≡ Some e → target_of es k ≡ e.to
target_got es k e l got = target_is es k e l (sym (get_or_from_slice_get es k e e got))

pub ends_within : (g : Graph) (k : ℕ) (e : Edge) → IsDigraph g → k < length g.edges → e ≡ get_or g.edges k e → (e.from < g.nodes) × (e.to < g.nodes)
ends_within g k e h l is =
    let s = (h k l).nodes in
    (omega (arith, s.from, source_is g.edges k e l is), omega (arith, s.to, target_is g.edges k e l is))

-- The ends of an edge are nodes.
pub nodes_of_edge : {a b : ℕ} (g : Graph) → IsDigraph g → HasEdge g.edges a b → (a < g.nodes) × (b < g.nodes)
nodes_of_edge g h e =
    let ends = ends_within g e.listed.0 e.edge h e.listed.1 (sym e.listed.2) in
    (rw (sym e.from) ends.0, rw (sym e.to) ends.1)

pub sources_within : (g : Graph) → IsDigraph g → (i : ℕ) → i < length (sources g.edges) → get_or (sources g.edges) i 0 < g.nodes
sources_within g h i l = (h i (omega (arith, length-map g.edges (λ (e : Edge). e.from)))).nodes.from

pub targets_within : (g : Graph) → IsDigraph g → (i : ℕ) → i < length (targets g.edges) → get_or (targets g.edges) i 0 < g.nodes
targets_within g h i l = (h i (omega (arith, length-map g.edges (λ (e : Edge). e.to)))).nodes.to

-- ---- the edges ascend

pub ascending : (g : Graph) → IsDigraph g → (j d : ℕ) → j + suc d < length g.edges → ComesAfter g.edges j (j + suc d)
ascending g h j zero l = (h (j + 1) l).sorted j refl
ascending g h j (suc d) l =
    let before = ascending g h j d (omega arith) in
    let last = (h (j + suc (suc d)) l).sorted (j + suc d) (omega arith) in
    record {
      by_first = omega (arith, before.by_first, last.by_first);
      by_second = λ e.
          let one : source_of g.edges j ≡ source_of g.edges (j + suc d) = omega (arith, before.by_first, last.by_first, e) in
          let two : source_of g.edges (j + suc d) ≡ source_of g.edges (j + suc (suc d)) = omega (arith, before.by_first, last.by_first, e) in
          omega (arith, before.by_second one, last.by_second two);
    }

pub ascends : (g : Graph) → IsDigraph g → (j k : ℕ) → j < k → k < length g.edges → ComesAfter g.edges j k
ascends g h j k less l = let e : j + suc (k - suc j) ≡ k = omega arith in rw e at (ascending g h j (k - suc j) (omega arith))

-- Edge `k` is before a pair of nodes, or after it.
abbrev pub IsBelow : List Edge → ℕ → ℕ → ℕ → Type 0
IsBelow es k a b = IsBefore (source_of es k) (target_of es k) a b

abbrev pub IsAbove : List Edge → ℕ → ℕ → ℕ → Type 0
IsAbove es k a b = IsBefore a b (source_of es k) (target_of es k)

pub below_too : (g : Graph) → IsDigraph g → (j k a b : ℕ) → j ≤ k → k < length g.edges → IsBelow g.edges k a b → IsBelow g.edges j a b
below_too g h j k a b le l p =
    elim (cases_eq j k) [
      | inl e ↦ rw e p
      | inr ne ↦
          let s = ascends g h j k (omega arith) l in
          record {
            by_first = omega (arith, s.by_first, p.by_first);
            by_second = λ e.
                let one : source_of g.edges k ≡ a = omega (arith, s.by_first, p.by_first, e) in
                omega (arith, p.by_second one, s.by_second (e ∙ sym one));
          }
    ]

pub above_too : (g : Graph) → IsDigraph g → (j k a b : ℕ) → j ≤ k → k < length g.edges → IsAbove g.edges j a b → IsAbove g.edges k a b
above_too g h j k a b le l p =
    elim (cases_eq j k) [
      | inl e ↦ rw (← e) p
      | inr ne ↦
          let s = ascends g h j k (omega arith) l in
          record {
            by_first = omega (arith, s.by_first, p.by_first);
            by_second = λ e.
                let one : a ≡ source_of g.edges j = omega (arith, s.by_first, p.by_first, e) in
                omega (arith, p.by_second one, s.by_second (sym one ∙ e));
          }
    ]

-- An edge between two nodes has a number.
pub place_of_edge : {a b : ℕ} (es : List Edge) → HasEdge es a b → (k : ℕ) × (k < length es) × (source_of es k ≡ a) × (target_of es k ≡ b)
place_of_edge es e =
    (e.listed.0, e.listed.1, source_is es e.listed.0 e.edge e.listed.1 (sym e.listed.2) ∙ e.from, target_is es e.listed.0 e.edge e.listed.1 (sym e.listed.2) ∙ e.to)

-- If each edge is below or above the pair, no edge joins the two nodes.
pub no_edge_between : (es : List Edge) (a b : ℕ) → ((k : ℕ) → k < length es → IsBelow es k a b ⊎ IsAbove es k a b) → ¬ HasEdge es a b
no_edge_between es a b each e =
    let p = place_of_edge es e in
    elim (each p.0 p.1) [
      | inl l ↦ omega (arith, l.by_second p.2, p.3)
      | inr r ↦ omega (arith, r.by_second (sym p.2), p.3)
    ]

-- Two pairs are equal if neither is before the other.
pub same_pairs : (a b c d : ℕ) → ¬ IsBefore a b c d → ¬ IsBefore c d a b → (a ≡ c) × (b ≡ d)
same_pairs a b c d f g =
    elim (cases_order a c) [
      | inr r ↦
          elim r [
            | inl l ↦ absurd (f (record { by_first = omega arith; by_second = λ e. absurd (omega arith) }))
            | inr m ↦ absurd (g (record { by_first = omega arith; by_second = λ e. absurd (omega arith) }))
          ]
      | inl e ↦
          elim (cases_order b d) [
            | inl k ↦ (e, k)
            | inr r ↦
                elim r [
                  | inl l ↦ absurd (f (record { by_first = omega arith; by_second = λ _. l }))
                  | inr m ↦ absurd (g (record { by_first = omega arith; by_second = λ _. m }))
                ]
          ]
    ]

-- If the edges before edge `i` are sound and edge `i` is, so are those before `i + 1`.
pub sound_more : (n : ℕ) (es : List Edge) (i : ℕ) → ((k : ℕ) → k < i → IsSound n es k) → IsSound n es i → (k : ℕ) → k < i + 1 → IsSound n es k
sound_more n es i below here k h = elim (cases_eq k i) [ inl e ↦ rw e here | inr ne ↦ below k (omega arith) ]

-- The source and the target of edge `k`, from a read with `get_or`.
pub source_read : (es : List Edge) (k : ℕ) (d : Edge) → k < length es → source_of es k ≡ (get_or es k d).from
source_read es k d l = get_or-map (λ (e : Edge). e.from) es k d 0 l

pub target_read : (es : List Edge) (k : ℕ) (d : Edge) → k < length es → target_of es k ≡ (get_or es k d).to
target_read es k d l = get_or-map (λ (e : Edge). e.to) es k d 0 l

-- Edge `k` is after edge `j`, from reads of the two.
pub comes_after : (es : List Edge) (j k : ℕ) (d : Edge) → j < length es → k < length es → IsBefore (get_or es j d).from (get_or es j d).to (get_or es k d).from (get_or es k d).to → ComesAfter es j k
comes_after es j k d lj lk b = rw (source_read es j d lj, target_read es j d lj, source_read es k d lk, target_read es k d lk) b

pub is_before_read : (es : List Edge) (j k : ℕ) (d : Edge) → j < length es → k < length es → ComesAfter es j k → IsBefore (get_or es j d).from (get_or es j d).to (get_or es k d).from (get_or es k d).to
is_before_read es j k d lj lk b = rw (source_read es j d lj, target_read es j d lj, source_read es k d lk, target_read es k d lk) at b
