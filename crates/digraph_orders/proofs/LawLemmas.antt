-- Edges and orders.
use Rattle.std.proofs.Common.{◌≡◌, ◌≢◌, ℕ, zero, suc, ◌+◌, ◌-◌, ◌<◌, ◌⊎◌, inl, inr, List, length, get_or, map, take, sym, ◌∙◌, arith, Contains}
use Rattle.std.specs.List.{range_with_len}
use Rattle.std.proofs.lemmas.Bool.{cases_eq, cases_lt}
use Rattle.std.proofs.lemmas.List.FromFn.{length-map-range_with_len, get_or-map-range_with_len}
use Rattle.digraphs.specs.declared.digraph.Edge.{Edge}
use Rattle.digraphs.specs.Graph.{Graph, IsDigraph}
use Rattle.digraphs.specs.Paths.{HasEdge, HasFirmEdge, Path, nowhere, onward, SameComponent}
use Rattle.digraph_orders.specs.Orders.{IsHeld}
use Rattle.digraph_orders.specs.Sequences.{component_of}
use Rattle.digraph_orders.specs.Laws.{FirmPath, firm_edge, firm_onward, OneOrder, ComponentsFollowEdges, FirmEdgesFollow, CyclesAreComponents, CyclesAreMutual}
use Rattle.digraphs.proofs.FaultLemmas.{nodes_of_edge}
use Rattle.digraph_orders.proofs.PathLemmas.{same_self, same_joined, cycle_from_same, same_from_cycle}
use Rattle.digraph_orders.proofs.OrderLemmas.{same_order, place_before}
use Rattle.digraph_orders.proofs.ApartLemmas.{apart_short}

pub one_order : OneOrder
one_order g xs ys p q = same_order p q

pub cycles_are_components : CyclesAreComponents
cycles_are_components es a b ne = (λ s. cycle_from_same s ne, same_from_cycle)

pub cycles_are_mutual : CyclesAreMutual
cycles_are_mutual es a b c = record { first = c.second; first_edge = c.second_edge; there = c.back; second = c.first; second_edge = c.first_edge; back = c.there }

pub components_follow : ComponentsFollowEdges
components_follow g list o i j hi hj edge apart =
    let listed = (o.next j hj).available.entered (get_or list i 0) (get_or list j 0) edge (same_self (get_or list j 0)) apart in
    place_before o i j hi listed

-- ---- inside a component

pub path_inside : (g : Graph) → IsDigraph g → {a b : ℕ} → Path g.edges a b → a < g.nodes → b < g.nodes
path_inside g ok nowhere h = h
path_inside g ok (onward e p) h = path_inside g ok p (nodes_of_edge g ok e).1

pub firm_is_edge : {es : List Edge} {a b : ℕ} → HasFirmEdge es a b → HasEdge es a b
firm_is_edge f = record { edge = f.edge; listed = f.listed; from = f.from; to = f.to }

-- An unlisted node of `v`'s component.
record Fresh (g : Graph) (listed : List ℕ) (v : ℕ) : Type 0 where
  node : ℕ
  same : SameComponent g.edges node v
  fresh : ¬ Contains listed node

module _ (g : Graph) (ok : IsDigraph g) (listed : List ℕ) (v : ℕ) (lv : v < g.nodes) (free : ¬ Contains listed v) (held : (b : ℕ) → SameComponent g.edges b v → ¬ Contains listed b → IsHeld g.edges listed b) where
  -- The walk back from `v` along edges that aren't dev-only, over unlisted nodes.
  back : ℕ → Fresh g listed v
  back zero = record { node = v; same = same_self v; fresh = free }
  back (suc k) =
      let b = back k in
      let h = held b.node b.same b.fresh in
      record { node = h.by; same = same_joined h.same b.same; fresh = h.fresh }

  at_inside : (k : ℕ) → (back k).node < g.nodes
  at_inside k = path_inside g ok (back k).same.back lv

  step_edge : (k : ℕ) → HasFirmEdge g.edges (back (suc k)).node (back k).node
  unfolding back
  step_edge k = (held (back k).node (back k).same (back k).fresh).edge

  way : (k d : ℕ) → FirmPath g.edges (back (suc d + k)).node (back k).node
  way k zero = let e : suc zero + k ≡ suc k = omega arith in rw e (firm_edge (step_edge k))
  way k (suc d) = let e : suc (suc d) + k ≡ suc (suc d + k) = omega arith in rw e (firm_onward (step_edge (suc d + k)) (way k d))

  -- `x` is one of the first `n` nodes of the walk, or none is `x`.
  find : (x n : ℕ) → ((i : ℕ) × (i < n) × ((back i).node ≡ x)) ⊎ ((i : ℕ) → i < n → (back i).node ≢ x)
  find x zero = inr (λ i h e. omega (arith, h))
  find x (suc n) =
      elim (find x n) [
        | inl f ↦ inl (f.0, omega (arith, f.1), f.2)
        | inr none ↦
            elim (cases_eq (back n).node x) [
              | inl is ↦ inl (n, omega arith, is)
              | inr fails ↦ inr (λ i h e. elim (cases_eq i n) [ inl same ↦ fails (rw same at e) | inr ne ↦ none i (omega arith) e ])
            ]
      ]

  -- Two of the first `n` nodes of the walk are equal, or all are distinct.
  again : (n : ℕ) → ((i : ℕ) × (j : ℕ) × (i < j) × ((back i).node ≡ (back j).node)) ⊎ ((i j : ℕ) → i < j → j < n → (back i).node ≢ (back j).node)
  again zero = inr (λ i j l h e. omega (arith, h))
  again (suc n) =
      elim (again n) [
        | inl f ↦ inl f
        | inr none ↦
            elim (find (back n).node n) [
              | inl f ↦ inl (f.0, n, f.1, f.2)
              | inr new ↦ inr (λ i j l h e. elim (cases_eq j n) [ inl same ↦ new i (omega arith) (rw same at e) | inr ne ↦ none i j l (omega arith) e ])
            ]
      ]

  -- A walk longer than the number of nodes visits some node twice, so it has a cycle.
  pub firm_cycle : (a : ℕ) × FirmPath g.edges a a
  firm_cycle =
      elim (again (g.nodes + 1)) [
        | inl f ↦
            let d : ℕ = f.1 - suc f.0 in
            let there : suc d + f.0 ≡ f.1 = omega (arith, f.2) in
            let path : FirmPath g.edges (back f.1).node (back f.0).node = rw there at (way f.0 d) in
            ((back f.1).node, rw f.3 at path)
        | inr apart ↦
            let long : length (map (λ k. (back k).node) (range_with_len 0 (g.nodes + 1))) ≡ g.nodes + 1 = length-map-range_with_len (λ k. (back k).node) 0 (g.nodes + 1) in
            let read : (i : ℕ) → i < g.nodes + 1 → get_or (map (λ k. (back k).node) (range_with_len 0 (g.nodes + 1))) i 0 ≡ (back i).node =
            λ i h. get_or-map-range_with_len (λ k. (back k).node) 0 (g.nodes + 1) i i 0 h (omega arith)
            in
            absurd (omega (
              arith,
              long,
              apart_short (map (λ k. (back k).node) (range_with_len 0 (g.nodes + 1))) g.nodes
                  (λ i j l h e. apart i j l (omega arith) (sym (read i (omega arith)) ∙ e ∙ read j (omega arith)))
                  (λ i h. rw (read i (omega arith)) (at_inside i)),
            ))
      ]

pub firm_follow : FirmEdgesFollow
firm_follow g o ok none is i j hi hj firm =
    let u : ℕ = get_or o.list i 0 in
    let v : ℕ = get_or o.list j 0 in
    let lu : u < g.nodes = (is.order.next i hi).available.node in
    let lv : v < g.nodes = (is.order.next j hj).available.node in
    elim (cases_lt i j) [
      | inl l ↦ l
      | inr ge ↦
          absurd (
          elim (cases_eq (component_of o u) (component_of o v)) [
            | inr ne ↦ omega (arith, ge, components_follow g o.list is.order i j hi hj (firm_is_edge firm) (λ s. ne (is.same u v lu s)))
            | inl e ↦
                let same : SameComponent g.edges u v = is.apart u v lu lv e in
                let listed : List ℕ = take j o.list in
                let next = is.order.next j hj in
                let fresh_u : ¬ Contains listed u = λ c. omega (arith, ge, place_before is.order i j hi c) in
                elim (cases_eq u v) [
                  | inl loop ↦ none v (firm_edge (rw loop at firm))
                  | inr other ↦
                      elim next.available.ready [
                        | inl free ↦ free (record { by = u; other = other; fresh = fresh_u; same = same; edge = firm })
                        | inr all ↦ let c = firm_cycle g ok listed v lv next.available.fresh all in none c.0 c.1
                      ]
                ]
          ])
    ]
