-- A component has a cycle exactly if its nodes are on one.
use Rattle.std.proofs.Common.{◌≡◌, ◌≢◌, ◌↔◌, ℕ, ◌<◌, inl, inr, true, false, List, length, get_or, refl, ap, sym, ◌∙◌, subst, arith, Option, Some, None}
use Rattle.std.specs.Prelude.{Contains, nat_eq, nat_lt, ◌==◌, IfSome, IfNone, IsTrue, is_some}
use Rattle.std.specs.List.{IsDistinct, list_any}
use Rattle.std.proofs.lemmas.Bool.{ltb-true, lt-ltb, eq-eqb, eqb-true, eqb-false, false_from_ne_true, and_from, and_parts, or_cases, or_left, or_right, cases_eq, cases_order}
use Rattle.std.proofs.lemmas.List.{get_or-map, get_or_default}
use Rattle.std.proofs.lemmas.List.Elements.{Contains-get_or}
use Rattle.std.proofs.lemmas.List.Folds.{Any-from_list_any, list_any_at, list_any-from_Any}
use Rattle.std.proofs.lemmas.Map.Keys.{apart_from_distinct}
use Rattle.digraphs.specs.declared.digraph.Edge.{Edge}
use Rattle.digraphs.specs.Graph.{Graph, IsDigraph, IsEdgeAt, target_of}
use Rattle.digraph_orders.specs.Laws.{CyclesAreComponents}
use Rattle.digraph_orders.specs.Orders.{ListsEach}
use Rattle.digraphs.specs.Paths.{HasEdge, Path, nowhere, onward, SameComponent, OnCycle}
use Rattle.digraph_orders.specs.Sequences.{Sequence, IsOrderOf, component_of}
use Rattle.guppy_support.specs.Cycles.{nodes_of, is_loop, has_loop, has_cycle}
use Rattle.guppy_support.proofs.Distinct.{distinct_filter, distinct_from_apart, to_filter, from_filter}

-- ---- edges of a node to itself

some_edge : Edge
some_edge = record { from = 0; to = 0; non_dev = false }

loop_at : (es : List Edge) (v k : ℕ) → IsEdgeAt es v v k → has_loop es v ≡ true
loop_at es v k at =
    let from : (get_or es k some_edge).from ≡ v = sym (get_or-map (λ (e : Edge). e.from) es k some_edge 0 at.within) ∙ at.from in
    let to : (get_or es k some_edge).to ≡ v = sym (get_or-map (λ (e : Edge). e.to) es k some_edge 0 at.within) ∙ at.to in
    list_any_at (is_loop v) es k some_edge at.within (and_from _ _ (eq-eqb _ v from) (eq-eqb _ v to))

edge_from_loop : (es : List Edge) (v : ℕ) → has_loop es v ≡ true → HasEdge es v v
edge_from_loop es v h =
    let any = Any-from_list_any (is_loop v) es h in
    let parts = and_parts (any.1.from == v) (any.1.to == v) any.4 in
    record { edge = any.1; listed = (any.0, any.2, any.3); from = eqb-true any.1.from v parts.0; to = eqb-true any.1.to v parts.1 }

loop_from_edge : (es : List Edge) (v : ℕ) → HasEdge es v v → has_loop es v ≡ true
loop_from_edge es v h = list_any-from_Any (is_loop v) es (h.listed.0, h.edge, h.listed.1, h.listed.2, and_from _ _ (eq-eqb h.edge.from v h.from) (eq-eqb h.edge.to v h.to))

-- The result of a look-up decides whether `v` has an edge to itself.
pub loop_is : (es : List Edge) (v : ℕ) (o : Option ℕ) → IfSome o (IsEdgeAt es v v) → IfNone o (¬ HasEdge es v v) → is_some o ≡ has_loop es v
loop_is es v (Some k) some none = sym (loop_at es v k some)
loop_is es v None some none = sym (false_from_ne_true (has_loop es v) (λ h. none (edge_from_loop es v h)))

-- ---- paths

join : {es : List Edge} {a b c : ℕ} → Path es a b → Path es b c → Path es a c
join nowhere q = q
join (onward e p) q = onward e (join p q)

-- A node on a common cycle with another node is on a cycle.
once_round : {es : List Edge} {a b : ℕ} → OnCycle es a b → OnCycle es a a
once_round c =
    let round = join c.there (onward c.second_edge c.back) in
    record { first = c.first; first_edge = c.first_edge; there = round; second = c.first; second_edge = c.first_edge; back = round }

edge_within : (g : Graph) → IsDigraph g → {a b : ℕ} → HasEdge g.edges a b → b < g.nodes
edge_within g ok {b = b} e =
    let k = e.listed.0 in
    let at : get_or g.edges k some_edge ≡ e.edge = get_or_default g.edges k some_edge e.edge e.listed.1 ∙ e.listed.2 in
    let is : target_of g.edges k ≡ b = get_or-map (λ (x : Edge). x.to) g.edges k some_edge 0 e.listed.1 ∙ ap (λ (x : Edge). x.to) at ∙ e.to in
    subst (λ x. x < g.nodes) is (ok k e.listed.1).nodes.to

-- ---- nodes of a component

pub in_nodes : (o : Sequence) (c v : ℕ) → Contains o.list v → component_of o v ≡ c → Contains (nodes_of o c) v
in_nodes o c v h e = to_filter (λ x. component_of o x == c) o.list v h (eq-eqb (component_of o v) c e)

two_places : (n i j : ℕ) → i < n → j < n → i ≢ j → 1 < n
two_places n i j hi hj ne = elim (cases_order i j) [ inl e ↦ absurd (ne e) | inr c ↦ elim c [ inl l ↦ omega arith | inr l ↦ omega arith ] ]

-- A list with two different numbers has at least two elements.
two_entries : (xs : List ℕ) (a b : ℕ) → Contains xs a → Contains xs b → a ≢ b → 1 < length xs
two_entries xs a b ha hb ne =
    two_places (length xs) ha.0 hb.0 ha.1 hb.1 (λ e. ne (sym ha.2 ∙ ap (λ i. get_or xs i a) e ∙ get_or_default xs hb.0 a b hb.1 ∙ hb.2))

-- A list of distinct numbers, with at least two elements, has one other than `a`.
another : (xs : List ℕ) (a : ℕ) → IsDistinct nat_eq xs → 1 < length xs → (b : ℕ) × Contains xs b × (a ≢ b)
another xs a d long =
    let zeroth = Contains-get_or xs 0 0 (omega arith) in
    let first = Contains-get_or xs 1 0 long in
    let apart = eqb-false (get_or xs 0 0) (get_or xs 1 0) (apart_from_distinct nat_eq xs 0 1 0 d (omega arith) long) in
    elim (cases_eq a (get_or xs 0 0)) [
      | inl e ↦ (get_or xs 1 0, first, λ f. apart (sym e ∙ f))
      | inr ne ↦ (get_or xs 0 0, zeroth, ne)
    ]

module _ (law : CyclesAreComponents) (g : Graph) (o : Sequence) (ok : IsDigraph g) (of : IsOrderOf g o) (each : ListsEach g.nodes o.list) where
  list_distinct : IsDistinct nat_eq o.list
  list_distinct = distinct_from_apart o.list (λ i j l h. each.apart i j l (omega (arith, h, each.long)))

  below : (v : ℕ) → Contains o.list v → v < g.nodes
  below v h = subst (λ x. x < g.nodes) (get_or_default o.list h.0 0 v h.1 ∙ h.2) (each.below h.0 (omega (arith, h.1, each.long)))

  -- If its component has another node, `v` is on a cycle.
  by_another : (v w : ℕ) → v < g.nodes → Contains (nodes_of o (component_of o v)) w → v ≢ w → OnCycle g.edges v v
  by_another v w h has ne =
      let parts = from_filter (λ x. component_of o x == component_of o v) o.list w has in
      let same = of.apart v w h (below w parts.0) (sym (eqb-true (component_of o w) (component_of o v) parts.1)) in
      once_round ((law g.edges v w ne).0 same)

  to_cycle : (v : ℕ) → v < g.nodes → has_cycle g.edges o (component_of o v) ≡ true → OnCycle g.edges v v
  to_cycle v h holds =
      let nodes = nodes_of o (component_of o v) in
      elim (or_cases (nat_lt 1 (length nodes)) (list_any (has_loop g.edges) nodes) holds) [
        | inl two ↦
            let other = another nodes v (distinct_filter (λ x. component_of o x == component_of o v) o.list list_distinct) (ltb-true 1 (length nodes) two) in
            by_another v other.0 h other.1 other.2
        | inr looped ↦
            let any = Any-from_list_any (has_loop g.edges) nodes looped in
            elim (cases_eq v any.1) [
              | inl e ↦
                  let edge = edge_from_loop g.edges v (ap (has_loop g.edges) e ∙ any.4) in
                  record { first = v; first_edge = edge; there = nowhere; second = v; second_edge = edge; back = nowhere }
              | inr ne ↦ by_another v any.1 h (any.0, any.2, any.3) ne
            ]
      ]

  from_cycle : (v : ℕ) → v < g.nodes → OnCycle g.edges v v → has_cycle g.edges o (component_of o v) ≡ true
  from_cycle v h cycle =
      let nodes = nodes_of o (component_of o v) in
      let here = in_nodes o (component_of o v) v (each.every v h) refl in
      elim (cases_eq v cycle.first) [
        | inl e ↦
            let looped = loop_from_edge g.edges v (subst (HasEdge g.edges v) (sym e) cycle.first_edge) in
            or_right (nat_lt 1 (length nodes)) (list_any (has_loop g.edges) nodes) (list_any-from_Any (has_loop g.edges) nodes (here.0, v, here.1, here.2, looped))
        | inr ne ↦
            let same : SameComponent g.edges v cycle.first = record { there = onward cycle.first_edge nowhere; back = cycle.there } in
            let there = in_nodes o (component_of o v) cycle.first (each.every cycle.first (edge_within g ok cycle.first_edge)) (sym (of.same v cycle.first h same)) in
            or_left (nat_lt 1 (length nodes)) (list_any (has_loop g.edges) nodes) (lt-ltb 1 (length nodes) (two_entries nodes v cycle.first here there ne))
      ]

  pub cyclic_by_cycles : (v : ℕ) → v < g.nodes → IsTrue (has_cycle g.edges o (component_of o v)) ↔ OnCycle g.edges v v
  cyclic_by_cycles v h = (to_cycle v h, from_cycle v h)
