-- The steps of the walk that finds components.
use Rattle.std.proofs.Common.{◌≡◌, ◌≢◌, ℕ, suc, ◌+◌, ◌-◌, ◌*◌, ◌<◌, ◌≤◌, ◌⊎◌, inl, inr, eqb, List, [], ◌∷◌, ◌++◌, length, get_or, take, set, replicate, refl, ap, sym, ◌∙◌, arith, get_or-set_same, get_or-set_other}
use Rattle.std.proofs.Math.ListN.{length-set}
use Rattle.std.proofs.lemmas.Bool.{cases_eq, cases_lt, eq-eqb, ne_eqb}
use Rattle.digraphs.specs.Graph.{Graph, IsDigraph, sources}
use Rattle.digraphs.specs.Rows.{places}
use Rattle.digraphs.specs.Paths.{HasEdge, Path, nowhere}
use Rattle.digraph_orders.specs.inner.NodeEdges.{target_at}
use Rattle.digraph_orders.specs.inner.ComponentWalk.{IsWalking, IsMore, IsFrontOf, AreGiven, unentered}
use Rattle.digraph_orders.proofs.PathLemmas.{join, one_edge}
use Rattle.digraph_orders.proofs.PlaceLemmas.{edge_found}
use Rattle.std.proofs.lemmas.List.{get_or-replicate, get_or_past, length-replicate, length-take, get_or-take}
use Rattle.std.specs.List.{range_with_len}
use Rattle.std.proofs.lemmas.List.FromFn.{length-range_with_len}
use Rattle.digraph_orders.specs.inner.Ranks.{AreLevels, AreRanked, IsRanking}
use Rattle.digraphs.proofs.FaultLemmas.{nodes_of_edge}
use Rattle.digraph_orders.proofs.OutEdgeLemmas.{at_left, at_last, length_push, out_number}
use Rattle.digraph_orders.proofs.FirstLemmas.{count_le}
use Rattle.digraph_orders.proofs.ApartLemmas.{apart_short, more_apart, more_inside}
use Rattle.digraph_orders.proofs.CountLemmas.{count_fewer, count_same}

pub more : (old : List ℕ) (x : ℕ) → IsMore old (old ++ x ∷ []) x
more old x = record { long = length_push old x; kept = λ i h. at_left old x i h; last = at_last old x (length old) refl }

module _ (g : Graph) (m ps bs os ls : List ℕ) (level : ℕ) (w : IsWalking g m ps bs os ls level) where
  pub few : length ps ≤ g.nodes
  few = apart_short ps g.nodes (λ i j l h e. omega (arith, l, (w.placed i (omega arith)).1, (w.placed j h).1, ap (λ (v : ℕ). get_or m v 0) e)) (λ i h. (w.placed i h).0)

  pub few_more : (node : ℕ) → node < g.nodes → get_or m node 0 ≡ 0 → length ps + 1 ≤ g.nodes
  few_more node inside new =
      omega (
        arith,
        apart_short (node ∷ ps) g.nodes
            (more_apart node ps (λ i j l h e. omega (arith, l, (w.placed i (omega arith)).1, (w.placed j h).1, ap (λ (v : ℕ). get_or m v 0) e))
            (λ k h e. omega (arith, (w.placed k h).1, new, ap (λ (v : ℕ). get_or m v 0) e)))
            (more_inside node g.nodes ps inside (λ i h. (w.placed i h).0)),
      )

  module _ (node : ℕ) (inside : node < g.nodes) (new : get_or m node 0 ≡ 0) where
    m' : List ℕ
    m' = set m node (length ps + 1)

    at_node : get_or (set m node (length ps + 1)) node 0 ≡ length ps + 1
    at_node = get_or-set_same m node (length ps + 1) 0 (omega (arith, inside, w.marks_long))

    other : (v : ℕ) → v ≢ node → get_or (set m node (length ps + 1)) v 0 ≡ get_or m v 0
    other v ne = get_or-set_other m node v (length ps + 1) 0 ne

    marked_other : (v : ℕ) → 0 < get_or m v 0 → get_or (set m node (length ps + 1)) v 0 ≡ get_or m v 0
    marked_other v some = other v (λ e. omega (arith, some, new, ap (λ (u : ℕ). get_or m u 0) e))

    grows : (v : ℕ) → get_or m v 0 ≤ get_or (set m node (length ps + 1)) v 0
    grows v = elim (cases_eq v node) [ inl e ↦ rw e (omega (arith, new)) | inr ne ↦ omega (arith, other v ne) ]

    pub entered_fewer : unentered g.nodes m ≡ suc (unentered g.nodes (set m node (length ps + 1)))
    entered_fewer =
        count_fewer (λ v. eqb (get_or m v 0) 0) (λ v. eqb (get_or (set m node (length ps + 1)) v 0) 0) g.nodes node inside (eq-eqb _ _ new)
        (ne_eqb _ _ (λ e. omega (arith, e, at_node))) (λ i ne. ap (λ (x : ℕ). eqb x 0) (sym (other i ne)))

    pub entered : ((j : ℕ) → j < length ps → Path g.edges (get_or ps j 0) node) → (ps' bs' os' ls' : List ℕ) → IsMore ps ps' node → IsMore bs bs' (length ps) → IsMore os os' node
        → IsMore ls ls' (length (places node (sources g.edges))) → IsWalking g (set m node (length ps + 1)) ps' bs' os' ls' level
    entered led ps' bs' os' ls' p b o l =
        let room = few_more node inside new in
        let last_left : get_or ls' (length os) 0 ≡ length (places node (sources g.edges)) = rw w.left_long at l.last in
        let open_old : (i : ℕ) → i < length os → get_or (set m node (length ps + 1)) (get_or os' i 0) 0 ≡ get_or m (get_or os i 0) 0 =
        λ i h. rw (o.kept i h) (marked_other (get_or os i 0) (w.opened_pending i h).0)
        in
        let open_new : get_or (set m node (length ps + 1)) (get_or os' (length os) 0) 0 ≡ length ps + 1 = rw o.last at_node in
        record {
          marks_long = length-set m node (length ps + 1) ∙ w.marks_long;
          left_long = omega (arith, l.long, o.long, w.left_long);
          room = omega (arith, w.room, p.long, entered_fewer);
          level_high = w.level_high;
          placed = λ i h.
              elim (cases_lt i (length ps)) [
                | inl li ↦
                    let old = w.placed i li in
                    rw (p.kept i li) (old.0, marked_other (get_or ps i 0) (omega (arith, old.1)) ∙ old.1)
                | inr ge ↦
                    let e : i ≡ length ps = omega (arith, p.long) in
                    rw (e, p.last) (inside, at_node)
              ];
          known = λ v pos le.
              elim (cases_eq v node) [
                | inl e ↦
                    let q : length ps + 1 - 1 ≡ length ps = omega arith in
                    rw (e, at_node, q) (omega (arith, p.long), p.last)
                | inr ne ↦
                    let same = other v ne in
                    let old = w.known v (omega (arith, pos, same)) (omega (arith, le, same)) in
                    rw same (omega (arith, old.0, p.long), p.kept (get_or m v 0 - 1) (omega (arith, old.0, pos, same)) ∙ old.1)
              ];
          opened_pending = λ i h.
              elim (cases_lt i (length os)) [
                | inl li ↦ let old = w.opened_pending i li in rw (open_old i li) (old.0, omega (arith, old.1, p.long))
                | inr ge ↦ let e : i ≡ length os = omega (arith, o.long) in rw (e, open_new) (omega arith, omega (arith, p.long))
              ];
          opened_rise = λ i j lt h.
              elim (cases_lt j (length os)) [
                | inl lj ↦ omega (arith, open_old i (omega (arith, lt, lj)), open_old j lj, w.opened_rise i j lt lj)
                | inr ge ↦
                    let e : j ≡ length os = omega (arith, o.long) in
                    let li : i < length os = omega arith in
                    rw e (omega (arith, open_old i li, open_new, (w.opened_pending i li).1))
              ];
          few_left = λ i h.
              elim (cases_lt i (length os)) [
                | inl li ↦ rw (o.kept i li, l.kept i (omega (arith, li, w.left_long))) (w.few_left i li)
                | inr ge ↦ let e : i ≡ length os = omega (arith, o.long) in rw (e, o.last, last_left) (omega arith)
              ];
          first = λ some. (
            omega (arith, b.long),
            elim (cases_lt 0 (length bs)) [
              | inl lb ↦ b.kept 0 lb ∙ (w.first (omega (arith, (w.bounds_open 0 lb).0))).1
              | inr ge ↦
                  let none : length bs ≡ 0 = omega arith in
                  let empty : length ps ≡ 0 = elim (cases_lt 0 (length ps)) [ inl lp ↦ absurd (omega (arith, (w.first lp).0, none)) | inr gp ↦ omega arith ] in
                  let z : get_or bs' 0 0 ≡ length ps = rw none at b.last in
                  z ∙ empty
            ],
          );
          bounds_rise = λ i j lt h.
              elim (cases_lt j (length bs)) [
                | inl lj ↦ omega (arith, b.kept i (omega (arith, lt, lj)), b.kept j lj, w.bounds_rise i j lt lj)
                | inr ge ↦
                    let e : j ≡ length bs = omega (arith, b.long) in
                    let li : i < length bs = omega arith in
                    rw e (omega (arith, b.kept i li, b.last, (w.bounds_open i li).0))
              ];
          bounds_open = λ i h.
              elim (cases_lt i (length bs)) [
                | inl li ↦
                    let old = w.bounds_open i li in
                    rw (b.kept i li, p.kept (get_or bs i 0) old.0) (omega (arith, old.0, p.long), (old.1.0, omega (arith, old.1.1, o.long), o.kept old.1.0 old.1.1 ∙ old.1.2))
                | inr ge ↦
                    let e : i ≡ length bs = omega (arith, b.long) in
                    rw (e, b.last, p.last) (omega (arith, p.long), (length os, omega (arith, o.long), o.last))
              ];
          ahead = λ i j hi le hj.
              elim (cases_lt i (length bs)) [
                | inl li ↦
                    let bound = w.bounds_open i li in
                    let le' : get_or bs i 0 ≤ j = omega (arith, le, b.kept i li) in
                    rw (b.kept i li, p.kept (get_or bs i 0) bound.0)
                    (elim (cases_lt j (length ps)) [
                      | inl lj ↦ rw (p.kept j lj) (w.ahead i j li le' lj)
                      | inr gj ↦ let e : j ≡ length ps = omega (arith, p.long) in rw (e, p.last) (led (get_or bs i 0) bound.0)
                    ])
                | inr ge ↦
                    let e : i ≡ length bs = omega (arith, b.long) in
                    let at : get_or bs' i 0 ≡ length ps = rw e b.last in
                    let ej : j ≡ length ps = omega (arith, p.long, at, le) in
                    rw (at, ej) nowhere
              ];
          behind = λ i j hi hj next.
              elim (cases_lt i (length bs)) [
                | inl li ↦
                    let bound = w.bounds_open i li in
                    let far : j < get_or bs' (i + 1) 0 = next (omega (arith, li, b.long)) in
                    let lj : j < length ps =
                    elim (cases_lt (i + 1) (length bs)) [
                      | inl l1 ↦ omega (arith, far, b.kept (i + 1) l1, (w.bounds_open (i + 1) l1).0)
                      | inr g1 ↦ let e1 : i + 1 ≡ length bs = omega arith in let at : get_or bs' (i + 1) 0 ≡ length ps = rw e1 b.last in omega (arith, far, at)
                    ]
                    in
                    rw (b.kept i li, p.kept (get_or bs i 0) bound.0, p.kept j lj) (w.behind i j li lj (λ l1. omega (arith, far, b.kept (i + 1) l1)))
                | inr ge ↦
                    let e : i ≡ length bs = omega (arith, b.long) in
                    let at : get_or bs' i 0 ≡ length ps = rw e b.last in
                    rw (at, p.last)
                    (elim (cases_lt j (length ps)) [
                      | inl lj ↦ rw (p.kept j lj) (led j lj)
                      | inr gj ↦ let ej : j ≡ length ps = omega (arith, p.long) in rw (ej, p.last) nowhere
                    ])
              ];
          passed = λ i k c hi hk hc lt.
              elim (cases_lt i (length os)) [
                | inl li ↦
                    let lt' : get_or bs' c 0 < get_or m (get_or os i 0) 0 = omega (arith, lt, open_old i li) in
                    elim (cases_lt c (length bs)) [
                      | inl lc ↦
                          let hk' : k + get_or ls i 0 < length (places (get_or os i 0) (sources g.edges)) = rw (o.kept i li, l.kept i (omega (arith, li, w.left_long))) at hk in
                          rw (o.kept i li)
                          (omega (arith, b.kept c lc, grows (target_at g.edges (get_or os i 0) k), w.passed i k c li hk' lc (omega (arith, lt', b.kept c lc))))
                      | inr gc ↦
                          let e : c ≡ length bs = omega (arith, b.long) in
                          let at : get_or bs' c 0 ≡ length ps = rw e b.last in
                          absurd (omega (arith, at, lt', (w.opened_pending i li).1))
                    ]
                | inr ge ↦
                    let e : i ≡ length os = omega (arith, o.long) in
                    let hk' : k + length (places node (sources g.edges)) < length (places node (sources g.edges)) = rw (e, o.last, last_left) at hk in
                    absurd (omega (arith, hk'))
              ];
          closed = λ v x c pos le shut edge hc lt.
              let same = other v (λ e. shut (length os) (omega (arith, o.long)) (o.last ∙ sym e)) in
              let old = w.known v (omega (arith, pos, same)) (omega (arith, le, same)) in
              elim (cases_lt c (length bs)) [
                | inl lc ↦
                    omega (
                      arith,
                      b.kept c lc,
                      grows x,
                      w.closed v x c (omega (arith, pos, same)) (omega (arith, le, same)) (λ i h e. shut i (omega (arith, h, o.long)) (o.kept i h ∙ e)) edge lc (omega (arith, lt, same, b.kept c lc)),
                    )
                | inr gc ↦
                    let e : c ≡ length bs = omega (arith, b.long) in
                    let at : get_or bs' c 0 ≡ length ps = rw e b.last in
                    absurd (omega (arith, at, lt, same, old.0))
              ];
          below = λ v big.
              elim (cases_eq v node) [
                | inl e ↦ absurd (let big' : g.nodes < length ps + 1 = rw (e, at_node) at big in omega (arith, big', room))
                | inr ne ↦ let same = other v ne in omega (arith, same, w.below v (omega (arith, big, same)))
              ];
          high = λ v. elim (cases_eq v node) [ inl e ↦ rw (e, at_node) (omega (arith, room)) | inr ne ↦ omega (arith, other v ne, w.high v) ];
          ascends = λ a c big edge.
              elim (cases_eq a node) [
                | inl e ↦ absurd (let big' : g.nodes < length ps + 1 = rw (e, at_node) at big in omega (arith, big', room))
                | inr ne ↦ let same = other a ne in omega (arith, same, grows c, w.ascends a c (omega (arith, big, same)) edge)
              ];
          same = λ a c big e.
              elim (cases_eq a node) [
                | inl ea ↦ absurd (let big' : g.nodes < length ps + 1 = rw (ea, at_node) at big in omega (arith, big', room))
                | inr na ↦
                    elim (cases_eq c node) [
                      | inl ec ↦ absurd (let e' : get_or (set m node (length ps + 1)) a 0 ≡ length ps + 1 = rw (ec, at_node) at e in omega (arith, big, e', room))
                      | inr nc ↦ w.same a c (omega (arith, big, other a na)) (omega (arith, e, other a na, other c nc))
                    ]
              ];
        }

  pub unentered_given : (m' : List ℕ) (s : ℕ) → AreGiven m m' s (length ps) level → unentered g.nodes m' ≡ unentered g.nodes m
  unentered_given m' s given =
      count_same (λ v. eqb (get_or m' v 0) 0) (λ v. eqb (get_or m v 0) 0) g.nodes
      (λ v h. elim (cases_lt s (get_or m v 0)) [
        | inr low ↦ ap (λ (x : ℕ). eqb x 0) (given.low v low)
        | inl more_than ↦
            elim (cases_lt (length ps) (get_or m v 0)) [
              | inl far ↦ ap (λ (x : ℕ). eqb x 0) (given.high v far)
              | inr within ↦
                  ne_eqb (get_or m' v 0) 0 (λ e. omega (arith, e, given.given v more_than within, w.room, h))
                  ∙ sym (ne_eqb (get_or m v 0) 0 (λ e. omega (arith, e, more_than)))
            ]
      ])

  -- The last open node.
  module _ (top last : ℕ) (some : last + 1 ≡ length os) (top_is : get_or os last 0 ≡ top) where
    top_place : (0 < get_or m top 0) × (get_or m top 0 ≤ length ps) × (get_or ps (get_or m top 0 - 1) 0 ≡ top)
    top_place =
        let p : (0 < get_or m top 0) × (get_or m top 0 ≤ length ps) = rw top_is at (w.opened_pending last (omega arith)) in
        (p.0, p.1, (w.known top p.0 (omega (arith, p.1, few))).1)

    -- No bound is behind the last open node.
    pub bound_low : (b : ℕ) → b < length bs → get_or bs b 0 < get_or m top 0
    bound_low b h =
        let o = w.bounds_open b h in
        let place : get_or m (get_or os o.1.0 0) 0 ≡ get_or bs b 0 + 1 = rw (o.1.2) ((w.placed (get_or bs b 0) o.0).1) in
        elim (cases_eq o.1.0 last) [
          | inl e ↦ let place' : get_or m top 0 ≡ get_or bs b 0 + 1 = rw (e, top_is) at place in omega (arith, place')
          | inr ne ↦
              let up : get_or m (get_or os o.1.0 0) 0 < get_or m top 0 = rw top_is at (w.opened_rise o.1.0 last (omega (arith, ne, o.1.1, some)) (omega arith)) in
              omega (arith, place, up)
        ]

    pub root_to_top : (b : ℕ) → b < length bs → Path g.edges (get_or ps (get_or bs b 0) 0) top
    root_to_top b h =
        let t = top_place in
        let p = w.ahead b (get_or m top 0 - 1) h (omega (arith, bound_low b h, t.0)) (omega (arith, t.0, t.1)) in
        rw t.2 at p

    pub all_to_top : (j : ℕ) → j < length ps → Path g.edges (get_or ps j 0) top
    all_to_top j h =
        let some_bound = (w.first (omega (arith, h))).0 in
        let b = length bs - 1 in
        join (w.behind b j (omega (arith, some_bound)) h (λ l. absurd (omega (arith, l, some_bound)))) (root_to_top b (omega (arith, some_bound)))

    pub bounded : 0 < length bs
    bounded = (w.first (omega (arith, top_place.0, top_place.1))).0

    -- Removing the bounds from the target of an edge on keeps the invariant.
    pub joined : (x : ℕ) → HasEdge g.edges top x → 0 < get_or m x 0 → (bs' : List ℕ) → IsFrontOf bs bs' → 0 < length bs' → ((i : ℕ) → length bs' ≤ i → i < length bs → get_or m x 0 ≤ get_or bs i 0)
        → IsWalking g m ps bs' os ls level
    joined x edge pos bs' f some' dropped =
        record {
          marks_long = w.marks_long;
          left_long = w.left_long;
          room = w.room;
          level_high = w.level_high;
          placed = w.placed;
          known = w.known;
          opened_pending = w.opened_pending;
          opened_rise = w.opened_rise;
          few_left = w.few_left;
          first = λ h. (some', f.kept 0 some' ∙ (w.first h).1);
          bounds_rise = λ i j lt h. omega (arith, f.kept i (omega (arith, lt, h)), f.kept j h, w.bounds_rise i j lt (omega (arith, h, f.shorter)));
          bounds_open = λ i h. rw (f.kept i h) (w.bounds_open i (omega (arith, h, f.shorter)));
          ahead = λ i j hi le hj. rw (f.kept i hi) (w.ahead i j (omega (arith, hi, f.shorter)) (omega (arith, le, f.kept i hi)) hj);
          behind = λ i j hi hj next.
              let li : i < length bs = omega (arith, hi, f.shorter) in
              rw (f.kept i hi)
              (elim (cases_lt (i + 1) (length bs')) [
                | inl l1 ↦ w.behind i j li hj (λ q. omega (arith, next l1, f.kept (i + 1) l1))
                | inr g1 ↦
                    elim (cases_lt (i + 1) (length bs)) [
                      | inr g2 ↦ w.behind i j li hj (λ q. absurd (omega (arith, q, g2)))
                      | inl l2 ↦
                          let low = dropped (i + 1) g1 l2 in
                          let bound = (w.bounds_open (i + 1) l2).0 in
                          let at = w.known x pos (omega (arith, low, bound, few)) in
                          let back = w.behind i (get_or m x 0 - 1) li (omega (arith, at.0, pos)) (λ q. omega (arith, low, pos)) in
                          join (all_to_top j hj) (join (one_edge edge) (rw at.1 at back))
                    ]
              ]);
          passed = λ i k c hi hk hc lt. rw (f.kept c hc) (w.passed i k c hi hk (omega (arith, hc, f.shorter)) (rw (f.kept c hc) at lt));
          closed = λ v y c p le shut e hc lt. rw (f.kept c hc) (w.closed v y c p le shut e (omega (arith, hc, f.shorter)) (rw (f.kept c hc) at lt));
          below = w.below;
          high = w.high;
          ascends = w.ascends;
          same = w.same;
        }

    -- Passing one edge of the last open node keeps the invariant.
    pub stepped : (r : ℕ) → get_or ls last 0 ≡ r + 1
        → ((b : ℕ) → b < length bs → get_or bs b 0 < get_or m (target_at g.edges top (length (places top (sources g.edges)) - get_or ls last 0)) 0)
        → IsWalking g m ps bs os (set ls last r) level
    stepped r is all =
        let inside : last < length ls = omega (arith, some, w.left_long) in
        let now = get_or-set_same ls last r 0 inside in
        record {
          marks_long = w.marks_long;
          left_long = length-set ls last r ∙ w.left_long;
          room = w.room;
          level_high = w.level_high;
          placed = w.placed;
          known = w.known;
          opened_pending = w.opened_pending;
          opened_rise = w.opened_rise;
          few_left = λ i h.
              elim (cases_eq i last) [
                | inl e ↦ let old = w.few_left last (omega arith) in rw (e, now) (omega (arith, old, is))
                | inr ne ↦ rw (get_or-set_other ls last i r 0 ne) (w.few_left i h)
              ];
          first = w.first;
          bounds_rise = w.bounds_rise;
          bounds_open = w.bounds_open;
          ahead = w.ahead;
          behind = w.behind;
          passed = λ i k c hi hk hc lt.
              elim (cases_eq i last) [
                | inr ne ↦ w.passed i k c hi (rw (get_or-set_other ls last i r 0 ne) at hk) hc lt
                | inl e ↦
                    let hk' : k + r < length (places (get_or os last 0) (sources g.edges)) = rw (e, now) at hk in
                    let lt' : get_or bs c 0 < get_or m (get_or os last 0) 0 = rw e at lt in
                    rw e
                    (elim (cases_lt (k + (r + 1)) (length (places (get_or os last 0) (sources g.edges)))) [
                      | inl old ↦ w.passed last k c (omega arith) (omega (arith, old, is)) hc lt'
                      | inr here ↦
                          let at : length (places (get_or os last 0) (sources g.edges)) - get_or ls last 0 ≡ k = omega (arith, hk', here, is) in
                          let there : get_or bs c 0 < get_or m (target_at g.edges (get_or os last 0) (length (places (get_or os last 0) (sources g.edges)) - get_or ls last 0)) 0 = rw top_is (all c hc) in
                          rw at at there
                    ])
              ];
          closed = w.closed;
          below = w.below;
          high = w.high;
          ascends = w.ascends;
          same = w.same;
        }

    -- All edges of the last open node are passed.
    module _ (none : get_or ls last 0 ≡ 0) where
      all_passed : (x b : ℕ) → HasEdge g.edges top x → b < length bs → get_or bs b 0 < get_or m x 0
      all_passed x b edge h =
          let f = edge_found g.edges top x edge in
          let inside : f.0 + get_or ls last 0 < length (places (get_or os last 0) (sources g.edges)) = rw top_is (omega (arith, f.1, none)) in
          let low : get_or bs b 0 < get_or m (get_or os last 0) 0 = rw top_is (bound_low b h) in
          let p = w.passed last f.0 b (omega arith) inside h low in
          let p' : get_or bs b 0 < get_or m (target_at g.edges top f.0) 0 = rw top_is at p in
          rw f.2 at p'

      module _ (os' ls' : List ℕ) (o : IsMore os' os top) (l : IsMore ls' ls 0) where
        last_is : last ≡ length os'
        last_is = omega (arith, o.long, some)

        shut_too : (v : ℕ) → v ≢ top → ((i : ℕ) → i < length os' → get_or os' i 0 ≢ v) → (i : ℕ) → i < length os → get_or os i 0 ≢ v
        shut_too v ne shut i h e =
            elim (cases_lt i (length os')) [
              | inl li ↦ shut i li (sym (o.kept i li) ∙ e)
              | inr ge ↦ let at : i ≡ length os' = omega (arith, o.long) in let e' : get_or os (length os') 0 ≡ v = rw at at e in ne (sym e' ∙ o.last)
            ]

        -- Case 1: the node doesn't begin a component, so it stays pending.
        pub closed_inner : ((b : ℕ) → b < length bs → get_or bs b 0 + 1 ≢ get_or m top 0) → IsWalking g m ps bs os' ls' level
        closed_inner apart =
            record {
              marks_long = w.marks_long;
              left_long = omega (arith, l.long, o.long, w.left_long);
              room = w.room;
              level_high = w.level_high;
              placed = w.placed;
              known = w.known;
              opened_pending = λ i h. rw (o.kept i h) at (w.opened_pending i (omega (arith, h, o.long)));
              opened_rise = λ i j lt h. rw (o.kept i (omega (arith, lt, h)), o.kept j h) at (w.opened_rise i j lt (omega (arith, h, o.long)));
              few_left = λ i h. rw (o.kept i h, l.kept i (omega (arith, h, l.long, o.long, w.left_long))) at (w.few_left i (omega (arith, h, o.long)));
              first = w.first;
              bounds_rise = w.bounds_rise;
              bounds_open = λ i h.
                  let b = w.bounds_open i h in
                  elim (cases_lt b.1.0 (length os')) [
                    | inl lk ↦ (b.0, (b.1.0, lk, sym (o.kept b.1.0 lk) ∙ b.1.2))
                    | inr ge ↦
                        let at : b.1.0 ≡ length os' = omega (arith, o.long, b.1.1) in
                        let here : get_or os (length os') 0 ≡ get_or ps (get_or bs i 0) 0 = rw at at b.1.2 in
                        let is : top ≡ get_or ps (get_or bs i 0) 0 = sym o.last ∙ here in
                        absurd (apart i h (sym ((w.placed (get_or bs i 0) b.0).1) ∙ ap (λ (v : ℕ). get_or m v 0) (sym is)))
                  ];
              ahead = w.ahead;
              behind = w.behind;
              passed = λ i k c hi hk hc lt.
                  let li : i < length os = omega (arith, hi, o.long) in
                  rw (o.kept i hi) at (w.passed i k c li (rw (o.kept i hi, l.kept i (omega (arith, hi, l.long, o.long, w.left_long))) hk) hc (rw (o.kept i hi) lt));
              closed = λ v x c pos le shut edge hc lt.
                  elim (cases_eq v top) [
                    | inl e ↦ all_passed x c (rw e at edge) hc
                    | inr ne ↦ w.closed v x c pos le (shut_too v ne shut) edge hc lt
                  ];
              below = w.below;
              high = w.high;
              ascends = w.ascends;
              same = w.same;
            }

        module _ (bs' ps' m' : List ℕ) (s r : ℕ) (b : IsMore bs' bs s) (top_at : get_or m top 0 ≡ s + 1) (p : IsFrontOf ps ps') (long : length ps' ≡ s)
            (given : AreGiven m m' s (length ps) level) (m_long : length m' ≡ length m) (less : r + 1 ≡ level) where
          level_big : g.nodes + length ps ≤ level
          level_big = omega (arith, w.room)

          changed : (v : ℕ) → ((s < get_or m v 0) × (get_or m v 0 ≤ length ps) × (get_or m' v 0 ≡ level)) ⊎ (((get_or m v 0 ≤ s) ⊎ (length ps < get_or m v 0)) × (get_or m' v 0 ≡ get_or m v 0))
          changed v =
              elim (cases_lt s (get_or m v 0)) [
                | inr low ↦ inr (inl low, given.low v low)
                | inl more_than ↦
                    elim (cases_lt (length ps) (get_or m v 0)) [
                      | inl far ↦ inr (inr far, given.high v far)
                      | inr within ↦ inl (more_than, within, given.given v more_than within)
                    ]
              ]

          -- A mark above a pending place stays above it.
          stays_above : (v y : ℕ) → y < length ps → y < get_or m v 0 → y < get_or m' v 0
          stays_above v y small h = elim (changed v) [ inl q ↦ omega (arith, q.2, level_big, small) | inr q ↦ omega (arith, q.1, h) ]

          bound_last : get_or bs (length bs') 0 ≡ s
          bound_last = b.last

          inside_last : s < length ps
          inside_last = omega (arith, bound_last, (w.bounds_open (length bs') (omega (arith, b.long))).0)

          old_open : (i : ℕ) → i < length os' → (0 < get_or m (get_or os' i 0) 0) × (get_or m (get_or os' i 0) 0 ≤ s) × (get_or m' (get_or os' i 0) 0 ≡ get_or m (get_or os' i 0) 0)
          old_open i h =
              let li : i < length os = omega (arith, h, o.long) in
              let pos : 0 < get_or m (get_or os' i 0) 0 = rw (o.kept i h) at ((w.opened_pending i li).0) in
              let up : get_or m (get_or os' i 0) 0 < get_or m top 0 = rw (o.kept i h, o.last) at (w.opened_rise i (length os') h (omega (arith, o.long))) in
              let low : get_or m (get_or os' i 0) 0 ≤ s = omega (arith, up, top_at) in
              (pos, low, given.low _ low)

          -- An edge from the component leads into it, or to a component of higher level.
          out_of : (a x : ℕ) → s < get_or m a 0 → get_or m a 0 ≤ length ps → HasEdge g.edges a x → s < get_or m x 0
          out_of a x more_than within edge =
              let last_bound : length bs' < length bs = omega (arith, b.long) in
              elim (cases_eq a top) [
                | inl e ↦ let q = all_passed x (length bs') (rw e at edge) last_bound in rw bound_last at q
                | inr ne ↦
                    let q = w.closed a x (length bs') (omega (arith, more_than)) (omega (arith, within, few))
                    (shut_too a ne (λ i h e. let at : get_or m (get_or os' i 0) 0 ≡ get_or m a 0 = ap (λ (v : ℕ). get_or m v 0) e in omega (arith, more_than, at, (old_open i h).1)))
                    edge last_bound (rw bound_last more_than) in
                    rw bound_last at q
              ]

          to_root : (a : ℕ) → s < get_or m a 0 → get_or m a 0 ≤ length ps → Path g.edges a (get_or ps s 0)
          to_root a more_than within =
              let k = w.known a (omega (arith, more_than)) (omega (arith, within, few)) in
              let q = w.behind (length bs') (get_or m a 0 - 1) (omega (arith, b.long)) (omega (arith, within, more_than)) (λ l1. absurd (omega (arith, l1, b.long))) in
              rw (k.1, bound_last) at q

          from_root : (a : ℕ) → s < get_or m a 0 → get_or m a 0 ≤ length ps → Path g.edges (get_or ps s 0) a
          from_root a more_than within =
              let k = w.known a (omega (arith, more_than)) (omega (arith, within, few)) in
              let le : get_or bs (length bs') 0 ≤ get_or m a 0 - 1 = omega (arith, bound_last, more_than) in
              let q = w.ahead (length bs') (get_or m a 0 - 1) (omega (arith, b.long)) le (omega (arith, within, more_than)) in
              rw (k.1, bound_last) at q

          -- A mark past the remaining pending nodes is a level.
          was_ranked : (v : ℕ) → length ps < get_or m v 0 → g.nodes < get_or m v 0
          was_ranked v far = elim (cases_lt g.nodes (get_or m v 0)) [ inl l ↦ l | inr ge ↦ absurd (omega (arith, far, (w.known v (omega (arith, far)) ge).0)) ]

          pub closed_root : IsWalking g m' ps' bs' os' ls' r
          closed_root =
              record {
                marks_long = m_long ∙ w.marks_long;
                left_long = omega (arith, l.long, o.long, w.left_long);
                room = omega (arith, w.room, unentered_given m' s given, long, inside_last, less);
                level_high = omega (arith, w.level_high, less);
                placed = λ i h.
                    let old = w.placed i (omega (arith, h, p.shorter)) in
                    rw (p.kept i h) (old.0, given.low (get_or ps i 0) (omega (arith, old.1, h, long)) ∙ old.1);
                known = λ v pos le.
                    elim (changed v) [
                      | inl q ↦ absurd (omega (arith, q.2, le, level_big, inside_last))
                      | inr q ↦
                          let k = w.known v (omega (arith, pos, q.1)) (omega (arith, le, q.1)) in
                          let low : get_or m v 0 ≤ s = elim q.0 [ inl y ↦ y | inr y ↦ absurd (omega (arith, y, k.0)) ] in
                          rw q.1 (omega (arith, low, long), p.kept (get_or m v 0 - 1) (omega (arith, low, long, pos, q.1)) ∙ k.1)
                    ];
                opened_pending = λ i h. let q = old_open i h in rw q.2 (q.0, omega (arith, q.1, long));
                opened_rise = λ i j lt h.
                    let li : i < length os' = omega (arith, lt, h) in
                    let old : get_or m (get_or os' i 0) 0 < get_or m (get_or os' j 0) 0 = rw (o.kept i li, o.kept j h) at (w.opened_rise i j lt (omega (arith, h, o.long))) in
                    omega (arith, (old_open i li).2, (old_open j h).2, old);
                few_left = λ i h. rw (o.kept i h, l.kept i (omega (arith, h, l.long, o.long, w.left_long))) at (w.few_left i (omega (arith, h, o.long)));
                first = λ h.
                    let old = w.first (omega (arith, h, p.shorter)) in
                    elim (cases_lt 0 (length bs')) [
                      | inl lb ↦ (lb, sym (b.kept 0 lb) ∙ old.1)
                      | inr ge ↦
                          let z : length bs' ≡ 0 = omega arith in
                          let at : get_or bs 0 0 ≡ s = rw z at bound_last in
                          absurd (omega (arith, at, old.1, h, long))
                    ];
                bounds_rise = λ i j lt h. rw (b.kept i (omega (arith, lt, h)), b.kept j h) at (w.bounds_rise i j lt (omega (arith, h, b.long)));
                bounds_open = λ i h.
                    let q = w.bounds_open i (omega (arith, h, b.long)) in
                    let up : get_or bs i 0 < s = rw bound_last at (w.bounds_rise i (length bs') h (omega (arith, b.long))) in
                    let kept : get_or ps' (get_or bs i 0) 0 ≡ get_or ps (get_or bs i 0) 0 = p.kept (get_or bs i 0) (omega (arith, up, long)) in
                    rw (sym (b.kept i h), kept)
                    (elim (cases_lt q.1.0 (length os')) [
                      | inl lk ↦ (omega (arith, up, long), (q.1.0, lk, sym (o.kept q.1.0 lk) ∙ q.1.2))
                      | inr ge ↦
                          let at : q.1.0 ≡ length os' = omega (arith, o.long, q.1.1) in
                          let here : get_or os (length os') 0 ≡ get_or ps (get_or bs i 0) 0 = rw at at q.1.2 in
                          let is : top ≡ get_or ps (get_or bs i 0) 0 = sym o.last ∙ here in
                          absurd (omega (arith, up, top_at, (w.placed (get_or bs i 0) q.0).1, ap (λ (v : ℕ). get_or m v 0) is))
                    ]);
                ahead = λ i j hi le hj.
                    let up : get_or bs i 0 < s = rw bound_last at (w.bounds_rise i (length bs') hi (omega (arith, b.long))) in
                    rw (sym (b.kept i hi), p.kept (get_or bs i 0) (omega (arith, up, long)), p.kept j hj)
                    (w.ahead i j (omega (arith, hi, b.long)) (omega (arith, le, b.kept i hi)) (omega (arith, hj, p.shorter)));
                behind = λ i j hi hj next.
                    let up : get_or bs i 0 < s = rw bound_last at (w.bounds_rise i (length bs') hi (omega (arith, b.long))) in
                    rw (sym (b.kept i hi), p.kept (get_or bs i 0) (omega (arith, up, long)), p.kept j hj)
                    (w.behind i j (omega (arith, hi, b.long)) (omega (arith, hj, p.shorter))
                    (λ q. elim (cases_lt (i + 1) (length bs')) [
                      | inl l1 ↦ omega (arith, next l1, b.kept (i + 1) l1)
                      | inr g1 ↦ let e : i + 1 ≡ length bs' = omega (arith, hi) in rw (e, bound_last) (omega (arith, hj, long))
                    ]));
                passed = λ i k c hi hk hc lt.
                    let li : i < length os = omega (arith, hi, o.long) in
                    let q = old_open i hi in
                    let low : get_or bs c 0 < length ps = (w.bounds_open c (omega (arith, hc, b.long))).0 in
                    let hk' : k + get_or ls i 0 < length (places (get_or os i 0) (sources g.edges)) = rw (o.kept i hi, l.kept i (omega (arith, hi, l.long, o.long, w.left_long))) hk in
                    let lt' : get_or bs c 0 < get_or m (get_or os i 0) 0 = rw (o.kept i hi) (omega (arith, lt, q.2, b.kept c hc)) in
                    let old : get_or bs c 0 < get_or m (target_at g.edges (get_or os' i 0) k) 0 = rw (o.kept i hi) at (w.passed i k c li hk' (omega (arith, hc, b.long)) lt') in
                    rw (sym (b.kept c hc)) (stays_above _ _ low old);
                closed = λ v x c pos le shut edge hc lt.
                    elim (changed v) [
                      | inl q ↦ absurd (omega (arith, q.2, le, level_big, inside_last))
                      | inr q ↦
                          let pos' : 0 < get_or m v 0 = omega (arith, pos, q.1) in
                          let le' : get_or m v 0 ≤ g.nodes = omega (arith, le, q.1) in
                          let k = w.known v pos' le' in
                          let low : get_or m v 0 ≤ s = elim q.0 [ inl y ↦ y | inr y ↦ absurd (omega (arith, y, k.0)) ] in
                          let small : get_or bs c 0 < length ps = (w.bounds_open c (omega (arith, hc, b.long))).0 in
                          let ne : v ≢ top = λ e. let at : get_or m v 0 ≡ get_or m top 0 = ap (λ (u : ℕ). get_or m u 0) e in omega (arith, at, low, top_at) in
                          rw (sym (b.kept c hc))
                          (stays_above _ _ small (w.closed v x c pos' le' (shut_too v ne shut) edge (omega (arith, hc, b.long)) (omega (arith, lt, q.1, b.kept c hc))))
                    ];
                below = λ v big.
                    elim (changed v) [
                      | inl q ↦ omega (arith, q.2, less)
                      | inr q ↦ omega (arith, q.1, less, w.below v (omega (arith, big, q.1)))
                    ];
                high = λ v. elim (changed v) [ inl q ↦ omega (arith, q.2, w.level_high) | inr q ↦ omega (arith, q.1, w.high v) ];
                ascends = λ a x big edge.
                    elim (changed a) [
                      | inl q ↦
                          let far = out_of a x q.0 q.1 edge in
                          elim (changed x) [
                            | inl t ↦ omega (arith, q.2, t.2)
                            | inr t ↦ elim t.0 [ inl y ↦ absurd (omega (arith, y, far)) | inr y ↦ omega (arith, q.2, t.1, w.below x (was_ranked x y)) ]
                          ]
                      | inr q ↦
                          let big' : g.nodes < get_or m a 0 = omega (arith, big, q.1) in
                          let up = w.ascends a x big' edge in
                          elim (changed x) [
                            | inl t ↦ absurd (omega (arith, t.1, up, big', few))
                            | inr t ↦ omega (arith, q.1, t.1, up)
                          ]
                    ];
                same = λ a x big e.
                    elim (changed a) [
                      | inl q ↦
                          elim (changed x) [
                            | inl t ↦ record { there = join (to_root a q.0 q.1) (from_root x t.0 t.1); back = join (to_root x t.0 t.1) (from_root a q.0 q.1) }
                            | inr t ↦ absurd (omega (arith, q.2, e, t.1, level_big, inside_last, w.below x (omega (arith, q.2, e, t.1, level_big, inside_last))))
                          ]
                      | inr q ↦
                          let big' : g.nodes < get_or m a 0 = omega (arith, big, q.1) in
                          elim (changed x) [
                            | inl t ↦ absurd (omega (arith, t.2, e, q.1, w.below a big'))
                            | inr t ↦ w.same a x big' (omega (arith, e, q.1, t.1))
                          ]
                    ];
              }

-- If no node is open, each entered node has a level.
pub finished : (g : Graph) (m ps bs os ls : List ℕ) (level : ℕ) → IsWalking g m ps bs os ls level → length os ≡ 0 → (v : ℕ) → get_or m v 0 ≢ 0 → g.nodes < get_or m v 0
finished g m ps bs os ls level w none v some =
    elim (cases_lt g.nodes (get_or m v 0)) [
      | inl l ↦ l
      | inr ge ↦
          let pos : 0 < get_or m v 0 = elim (cases_lt 0 (get_or m v 0)) [ inl l ↦ l | inr z ↦ absurd (some (omega arith)) ] in
          let k = w.known v pos ge in
          let b = (w.first (omega (arith, pos, k.0))).0 in
          absurd (omega (arith, (w.bounds_open 0 b).1.1, none))
    ]

pub started : (g : Graph) (m : List ℕ) → length m ≡ g.nodes → ((v : ℕ) → get_or m v 0 ≡ 0) → IsWalking g m [] [] [] [] (2 * g.nodes)
started g m long z =
    record {
      marks_long = long;
      left_long = refl;
      room = omega (arith, count_le (λ v. eqb (get_or m v 0) 0) g.nodes);
      level_high = omega arith;
      placed = λ i h. absurd (omega (arith, h));
      known = λ v pos le. absurd (omega (arith, pos, z v));
      opened_pending = λ i h. absurd (omega (arith, h));
      opened_rise = λ i j lt h. absurd (omega (arith, h));
      few_left = λ i h. absurd (omega (arith, h));
      first = λ h. absurd (omega (arith, h));
      bounds_rise = λ i j lt h. absurd (omega (arith, h));
      bounds_open = λ i h. absurd (omega (arith, h));
      ahead = λ i j hi le hj. absurd (omega (arith, hi));
      behind = λ i j hi hj next. absurd (omega (arith, hi));
      passed = λ i k b hi hk hb lt. absurd (omega (arith, hi));
      closed = λ v x b pos le shut e hb lt. absurd (omega (arith, pos, z v));
      below = λ v big. absurd (omega (arith, big, z v));
      high = λ v. omega (arith, z v);
      ascends = λ a b big e. absurd (omega (arith, big, z a));
      same = λ a b big e. absurd (omega (arith, big, z a));
    }

pub zero_at : (n v : ℕ) (xs : List ℕ) → xs ≡ replicate n 0 → get_or xs v 0 ≡ 0
zero_at n v xs e =
    elim (cases_lt v n) [
      | inl l ↦ rw e (get_or-replicate n v 0 0 l)
      | inr p ↦ let long : length xs ≡ n = ap length e ∙ length-replicate n 0 in get_or_past xs v 0 (omega (arith, p, long))
    ]

-- The marks are levels.
pub levelled : (g : Graph) (m ps bs os ls : List ℕ) (level : ℕ) → IsDigraph g → IsWalking g m ps bs os ls level → ((v : ℕ) → v < g.nodes → g.nodes < get_or m v 0) → AreLevels g m
levelled g m ps bs os ls level ok w whole =
    record {
      long = w.marks_long;
      ascends = λ a b e. w.ascends a b (whole a (nodes_of_edge g ok e).0) e;
      same = λ a b la lb e. w.same a b (whole a la) e;
    }

-- The least nodes of levels are ranks.
pub ranked : (g : Graph) (levels ranks : List ℕ) → AreLevels g levels → AreRanked levels ranks → IsRanking g ranks
ranked g levels ranks l r =
    record {
      long = r.long ∙ l.long;
      levels = levels;
      are = l;
      one = λ a b la lb e. r.one a b (omega (arith, la, l.long)) (omega (arith, lb, l.long)) e;
      same = λ a b la lb e.
          let ka = r.kept a (omega (arith, la, l.long)) in
          let kb = r.kept b (omega (arith, lb, l.long)) in
          l.same a b la lb (sym ka ∙ ap (λ (x : ℕ). get_or levels x 0) e ∙ kb);
    }

pub more_from : (old new : List ℕ) (x : ℕ) → new ≡ old ++ x ∷ [] → IsMore old new x
more_from old new x e = rw e (more old x)

pub front_take : (n : ℕ) (xs : List ℕ) → IsFrontOf xs (take n xs)
front_take n xs = record { shorter = omega (arith, length-take n xs); kept = λ i h. get_or-take n xs i 0 (omega (arith, h, length-take n xs)) }

pub fewer_steps : (t t' e s d o : ℕ) → t ≡ (e + 2) + t' → d ≤ e → t' + ((s + d) + (o + 1)) < t + (s + o)
fewer_steps t t' e s d o is le = omega (arith, is, le)

-- The number of the next edge, from the number of edges left.
pub next_edge : (g : Graph) (v l first last : ℕ) → range_with_len first (last - first) ≡ places v (sources g.edges) → 0 < l → l ≤ length (places v (sources g.edges))
    → last - l ≡ get_or (places v (sources g.edges)) (length (places v (sources g.edges)) - l) 0
next_edge g v l first last e some few =
    omega (arith, length-range_with_len first (last - first), ap length e, some, few, out_number g v (length (places v (sources g.edges)) - l) first last e (omega (arith, some, few)))
