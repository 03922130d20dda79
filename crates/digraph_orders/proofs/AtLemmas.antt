-- Passing one edge.
use Rattle.std.proofs.Common.{◌≡◌, ◌≢◌, ℕ, suc, ◌+◌, ◌-◌, ◌<◌, ◌≤◌, ◌⊎◌, inl, inr, Bool, true, false, List, [], ◌∷◌, ◌++◌, length, get_or, set, ap, sym, ◌∙◌, arith, add-one, slice_get, Some}
use Rattle.std.proofs.lemmas.Option.{slice_get-get_or}
use Rattle.std.proofs.lemmas.List.{get_or-map}
use Rattle.digraph_orders.proofs.PlaceLemmas.{places_within}
use Rattle.digraph_orders.proofs.OutEdgeLemmas.{place_inside, edge_to}
use Rattle.std.proofs.lemmas.Bool.{cases_eq}
use Rattle.digraphs.specs.declared.digraph.Edge.{Edge}
use Rattle.digraphs.specs.Graph.{Graph, IsDigraph, sources}
use Rattle.digraphs.specs.Rows.{places}
use Rattle.digraph_orders.specs.inner.Queues.{Joins}
use Rattle.digraph_orders.specs.inner.Heads.{IsDone}
use Rattle.digraph_orders.specs.inner.Plans.{is_left, IsRun, IsAt, IsWithin, IsChosen, IsSetup, IsOutEdge, StartsGrow, AreStarts, AreReady}
use Rattle.digraph_orders.proofs.CountLemmas.{tally_same}
use Rattle.digraph_orders.proofs.RowLemmas.{done_same, done_kept, left_step, left_end, Steps}
use Rattle.digraph_orders.proofs.GroupLemmas.{first_head}
use Rattle.digraph_orders.proofs.StepLemmas.{plan_mark, plan_cut, pass_outside, pass_held, pass_idle, starts_more, starts_same, run_held}

pub ready_joins : (k b : ℕ) (old new : List ℕ) → k ≡ 0 → Joins old b new → AreReady k b old new
ready_joins k b old new z j = record { kept = j.kept; now = λ q. j.has; only = λ y c. elim (j.only y c) [ inl e ↦ inl (e, z) | inr o ↦ inr o ] }

module _ (g : Graph) (ranks : List ℕ) (setup : IsSetup g ranks) (node place : ℕ) (listed : List ℕ) (done : List Bool) (outside held starts ready rest : List ℕ)
    (at : IsAt g ranks node place listed done outside held starts ready rest) (to : ℕ) (firm : Bool) (e : IsOutEdge g node place to firm) where
  steps : Steps (get_or (places node (sources g.edges)) place 0) (length g.edges) (is_left g.edges done (places node (sources g.edges)) place) (is_left g.edges done (places node (sources g.edges)) (suc place))
  steps = left_step g.edges done node place at.marked e.within e.number e.from

  -- If an edge still enters a component, none of its nodes is done.
  unbegun : 0 < get_or outside (get_or ranks to 0) 0 → (u : ℕ) → get_or ranks u 0 ≡ get_or ranks to 0 → ¬ IsDone done u
  unbegun positive u same d =
      let z : get_or outside (get_or ranks to 0) 0 ≡ 0 = rw same at (at.plan.entered u d) in
      omega arith

  pub apart_positive : get_or ranks to 0 ≢ get_or ranks node 0 → 0 < get_or outside (get_or ranks to 0) 0
  apart_positive ne =
      (pass_outside g ranks listed done _ _ outside held starts at.plan _ node to steps e.from e.to_is at.marked e.node_to (setup.small to e.node_to) (λ q. ne (sym q))).0

  pub apart_next : get_or ranks to 0 ≢ get_or ranks node 0 → (starts' : List ℕ) → StartsGrow (places (get_or ranks to 0) ranks) held (get_or outside (get_or ranks to 0) 0 - 1) starts starts'
      → IsAt g ranks node (place + 1) listed done (set outside (get_or ranks to 0) (get_or outside (get_or ranks to 0) 0 - 1)) held starts' ready rest
  apart_next ne starts' grow =
      let p = pass_outside g ranks listed done _ _ outside held starts at.plan _ node to steps e.from e.to_is at.marked e.node_to (setup.small to e.node_to) (λ q. ne (sym q)) in
      let k = get_or outside (get_or ranks to 0) 0 - 1 in
      let more : AreStarts g.nodes ranks held done k (get_or ranks to 0) starts starts' =
      elim (cases_eq k 0) [
        | inr nz ↦ let st = grow.stays nz in rw st (starts_same g.nodes ranks held done k (get_or ranks to 0) starts nz)
        | inl z ↦
            let f = grow.grows z in
            let h = first_head g.nodes ranks held done (get_or ranks to 0) f.0 setup.ranking.long (unbegun p.0) f.1 in
            rw z (starts_more g.nodes ranks held done (get_or ranks to 0) f.0 starts starts' h.0 h.1 f.2)
      ]
      in
      rw (add-one place) (record { plan = p.1 k starts' (omega (arith, p.0)) more; run = at.run; marked = at.marked })

  pub firm_positive : get_or ranks to 0 ≡ get_or ranks node 0 → to ≢ node → firm ≡ true → 0 < get_or held to 0
  firm_positive same ne yes_firm =
      (pass_held g ranks listed done _ _ outside held starts at.plan _ node to steps e.from e.to_is at.marked e.node_to (setup.small to e.node_to) (sym same) (λ q. ne (sym q)) (e.firm_is ∙ yes_firm)).0

  pub firm_next : get_or ranks to 0 ≡ get_or ranks node 0 → to ≢ node → firm ≡ true → (ready' : List ℕ) → AreReady (get_or held to 0 - 1) to ready ready'
      → IsAt g ranks node (place + 1) listed done outside (set held to (get_or held to 0 - 1)) starts ready' rest
  firm_next same ne yes_firm ready' grow =
      let p = pass_held g ranks listed done _ _ outside held starts at.plan _ node to steps e.from e.to_is at.marked e.node_to (setup.small to e.node_to) (sym same) (λ q. ne (sym q)) (e.firm_is ∙ yes_firm) in
      let k = get_or held to 0 - 1 in
      let ek : k + 1 ≡ get_or held to 0 = omega (arith, p.0) in
      let r : IsRun g ranks done held ready rest (get_or ranks to 0) = rw same at.run in
      rw (add-one place)
      (record { plan = p.1 k ek; run = rw same at (run_held g ranks done held ready ready' rest to k r (omega (arith, at.plan.held_long, e.node_to)) e.node_to ek grow); marked = at.marked })

  pub idle_next : get_or ranks to 0 ≡ get_or ranks node 0 → (to ≡ node) ⊎ (firm ≡ false) → IsAt g ranks node (place + 1) listed done outside held starts ready rest
  idle_next same idle =
      rw (add-one place)
      (record {
        plan = pass_idle g ranks listed done _ _ outside held starts at.plan _ node to steps e.from e.to_is at.marked e.node_to (setup.small to e.node_to) (sym same)
            (elim idle [ inl q ↦ inl (sym q) | inr q ↦ inr (e.firm_is ∙ q) ]);
        run = at.run;
        marked = at.marked;
      })

module _ (g : Graph) (ranks : List ℕ) (node : ℕ) (listed : List ℕ) (done : List Bool) (outside held starts ready rest : List ℕ) where
  -- After the last edge of a node, the state is between two nodes.
  pub at_end : (place : ℕ) → length (places node (sources g.edges)) ≤ place → IsAt g ranks node place listed done outside held starts ready rest → IsWithin g ranks (get_or ranks node 0) listed done outside held starts ready rest
  at_end place h at =
      let e = left_end g.edges done (places node (sources g.edges)) place h in
      let p = at.plan in
      record {
        plan = record {
          nodes = p.nodes;
          marks = p.marks;
          done_long = p.done_long;
          counted = p.counted;
          outside_long = p.outside_long;
          held_long = p.held_long;
          entering = tally_same outside (length g.edges) _ _ _ (λ i l. e i) p.entering;
          holding = tally_same held (length g.edges) _ _ _ (λ i l. e i) p.holding;
          ordered = p.ordered;
          entered = p.entered;
          waiting = p.waiting;
          starts_nodes = p.starts_nodes;
          starting = p.starting;
        };
        run = at.run;
      }

  -- Listing the chosen node.
  pub at_begin : IsChosen g ranks node listed done outside held starts ready rest → IsAt g ranks node 0 (listed ++ node ∷ []) (set done node true) outside held starts ready rest
  at_begin c =
      let inside : node < length done = omega (arith, c.plan.done_long, c.next.available.node) in
      let p = plan_mark g ranks listed done outside held c.before node c.plan c.next.available.node (λ d. c.next.available.fresh (c.plan.marks.listed_one node d)) c.entered c.next in
      record {
        plan = plan_cut g ranks (listed ++ node ∷ []) done (set done node true) _ outside held c.before starts node p (done_same done node inside) (λ u f d. f (done_kept done node u inside d)) c.cut;
        run = c.run;
        marked = done_same done node inside;
      }

-- The edge read at a place is the out-edge there.
pub out_is : (g : Graph) (node place : ℕ) (e : Edge) → IsDigraph g → place < length (places node (sources g.edges)) → slice_get g.edges (get_or (places node (sources g.edges)) place 0) ≡ Some e → IsOutEdge g node place e.to e.non_dev
out_is g node place e ok h got =
    let i = get_or (places node (sources g.edges)) place 0 in
    let inside = place_inside g node place h in
    let t = edge_to g node place e ok h got in
    let read : slice_get g.edges i ≡ Some (get_or g.edges i e) = slice_get-get_or g.edges i e inside in
    let same : get_or g.edges i e ≡ e = cc in
    record {
      within = h;
      number = inside;
      from = (places_within node (sources g.edges) place h).1;
      to_is = sym t.value;
      firm_is = get_or-map (λ (d : Edge). d.non_dev) g.edges i e false inside ∙ ap (λ (d : Edge). d.non_dev) same;
      node_to = t.node;
    }
