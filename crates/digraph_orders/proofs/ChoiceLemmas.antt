-- The choice of the next node.
use Rattle.std.proofs.Common.{◌≡◌, ℕ, suc, ◌+◌, ◌-◌, ◌<◌, ◌≤◌, drop, inl, inr, Bool, true, false, not, List, [], length, get_or, set, refl, ap, sym, ◌∙◌, arith, Contains}
use Rattle.std.proofs.lemmas.Bool.{cases_Bool, cases_lt, cases_eq}
use Rattle.std.proofs.lemmas.List.{length-drop, get_or-drop}
use Rattle.std.proofs.lemmas.List.Elements.{Contains-get_or}
use Rattle.digraphs.specs.Graph.{Graph}
use Rattle.digraph_orders.specs.Orders.{IsOrder}
use Rattle.digraphs.proofs.FaultLemmas.{nodes_of_edge}
use Rattle.digraph_orders.proofs.ContainsLemmas.{place_of}
use Rattle.digraph_orders.specs.inner.Heads.{IsDone, IsHead, IsEntered}
use Rattle.digraph_orders.specs.inner.Plans.{is_fresh, IsRun, IsWithin, IsChosen, IsSetup, IsPause, AreReadyBut, AreCut, TakesFresh, IsBegun, IsWaiting, RowWaits, IsFreshPlace}
use Rattle.digraphs.specs.Rows.{places}
use Rattle.digraph_orders.proofs.PlaceLemmas.{places_within}
use Rattle.digraph_orders.proofs.GroupLemmas.{row_complete, rising}
use Rattle.digraph_orders.proofs.Available.{IsFront, some_available, rank_same}
use Rattle.digraph_orders.proofs.HeadLemmas.{next_within, next_start, done_cases}
use Rattle.digraph_orders.proofs.PlanLemmas.{holds_of, entered_of, zero_of}
use Rattle.digraph_orders.proofs.CountLemmas.{count_zero, count_full}
use Rattle.digraph_orders.specs.inner.Counts.{count_below, IsTally, enters, holds}
use Rattle.digraph_orders.proofs.RowLemmas.{done_same, done_kept, done_which}
use Rattle.digraph_orders.proofs.StepLemmas.{run_mark}

cut_none : (done : List Bool) (xs : List ℕ) (v : ℕ) → AreCut done xs v xs
cut_none done xs v = record { kept = λ y c f ne. c; only = λ y c. c }

cut_all : (done : List Bool) (xs : List ℕ) (v : ℕ) → ((y : ℕ) → Contains xs y → IsDone done y) → AreCut done xs v []
cut_all done xs v all = record { kept = λ y c f ne. absurd (f (all y c)); only = λ y c. absurd (omega (arith, c.1)) }

row_member : (n : ℕ) (ranks : List ℕ) (c : ℕ) → length ranks ≡ n → (y : ℕ) → Contains (places c ranks) y → (y < n) × (get_or ranks y 0 ≡ c)
row_member n ranks c long y cy =
    let p = place_of (places c ranks) y cy in
    let q = places_within c ranks p.0 p.1 in
    (omega (arith, q.0, p.2, long), rw p.2 at q.1)

row_has : (n : ℕ) (ranks : List ℕ) (c u : ℕ) → length ranks ≡ n → u < n → get_or ranks u 0 ≡ c → Contains (places c ranks) u
row_has n ranks c u long lu e = let r = row_complete ranks c u (omega (arith, long)) e in rw r.2 at (Contains-get_or (places c ranks) r.0 0 r.1)

-- A number in the row from place `k` on has a place from there on.
behind_place : (row : List ℕ) (k y : ℕ) → Contains (drop k row) y → (j : ℕ) × (k ≤ j) × ((j < length row) × (get_or row j 0 ≡ y))
behind_place row k y c =
    let p = place_of (drop k row) y c in
    (k + p.0, omega arith, (omega (arith, p.1, length-drop k row), sym (get_or-drop k row p.0 0) ∙ p.2))

place_behind : (row : List ℕ) (k j y : ℕ) → k ≤ j → j < length row → get_or row j 0 ≡ y → Contains (drop k row) y
place_behind row k j y le l e =
    let z : k + (j - k) ≡ j = omega arith in
    let c = Contains-get_or (drop k row) (j - k) 0 (omega (arith, l, le, length-drop k row)) in
    let r : get_or (drop k row) (j - k) 0 ≡ y = get_or-drop k row (j - k) 0 ∙ ap (λ i. get_or row i 0) z ∙ e in
    rw r at c

-- The first node of the row that isn't done is the least one.
pub takes_row : (ranks : List ℕ) (c : ℕ) (done : List Bool) (from place : ℕ) → IsFreshPlace (places c ranks) done from place
    → TakesFresh done (drop from (places c ranks)) (get_or (places c ranks) place 0) (drop place (places c ranks))
takes_row ranks c done from place f =
    let row : List ℕ = places c ranks in
    let later : (y : ℕ) → Contains (drop from row) y → ¬ IsDone done y → (j : ℕ) × (place ≤ j) × ((j < length row) × (get_or row j 0 ≡ y)) =
    λ y cy fy.
    let p = behind_place row from y cy in
    elim (cases_lt p.0 place) [
      | inl less ↦ absurd (fy (rw p.2.1 at (f.passed p.0 p.1 less)))
      | inr ge ↦ (p.0, ge, p.2)
    ]
    in
    record {
      was = place_behind row from place (get_or row place 0) f.after f.within refl;
      fresh = f.fresh;
      least = λ y cy fy.
          let p = later y cy fy in
          elim (cases_eq place p.0) [
            | inl same ↦ let e : get_or row place 0 ≡ y = rw (sym same) at p.2.1 in omega (arith, e)
            | inr ne ↦ let up = rising c 0 ranks place p.0 (omega (arith, ne, p.1)) p.2.0 in omega (arith, up, p.2.1)
          ];
      cut = record {
        kept = λ y cy fy ne. let p = later y cy fy in place_behind row place p.0 y p.1 p.2.0 p.2.1;
        only = λ y cy. let p = behind_place row place y cy in place_behind row from p.0 y (omega (arith, p.1, f.after)) p.2.0 p.2.1;
      };
    }

-- If each place from `from` on is done, each number left in the row is done.
pub row_done : (row : List ℕ) (done : List Bool) (from : ℕ) → ((j : ℕ) → from ≤ j → j < length row → IsDone done (get_or row j 0)) → (y : ℕ) → Contains (drop from row) y → IsDone done y
row_done row done from all y cy = let p = behind_place row from y cy in rw p.2.1 at (all p.0 p.1 p.2.0)

module _ (g : Graph) (ranks : List ℕ) (s : IsSetup g ranks) (listed : List ℕ) (done : List Bool) (outside held starts : List ℕ) where
  module _ (c : ℕ) (ready rest : List ℕ) (w : IsWithin g ranks c listed done outside held starts ready rest) where
    -- The head of the current component is next.
    choose : (v : ℕ) (ready' rest' : List ℕ) → get_or ranks v 0 ≡ c → IsHead g.nodes ranks held done v → AreCut done ready v ready' → AreCut done rest v rest'
        → IsChosen g ranks v listed done outside held starts ready' rest'
    choose v ready' rest' rank head cut cut' =
        let p = w.plan in
        let b = w.run.begun in
        let small : get_or ranks v 0 < length outside = omega (arith, s.small v head.node, p.outside_long) in
        let zero_v : get_or outside (get_or ranks v 0) 0 ≡ 0 = rw (b.same ∙ sym rank) at (p.entered b.by b.marked) in
        let run : IsRun g ranks done held ready rest (get_or ranks v 0) = rw (sym rank) at w.run in
        record {
          before = starts;
          plan = p;
          cut = cut_none done starts v;
          next = next_within g s.digraph ranks s.ranking listed held done p.marks (holds_of g s.digraph ranks s.ranking listed done p.marks held p.held_long p.holding) p.nodes v b.by head run.whole
              (entered_of g ranks done outside p.entering (get_or ranks v 0) small zero_v) b.marked (b.same ∙ sym rank);
          entered = zero_v;
          run = run_mark g ranks listed done outside held starts v ready ready' rest rest' run (omega (arith, p.done_long, head.node)) cut cut';
        }

    -- The current component has a node, so its rank is below the number of nodes.
    pub rank_small : c < g.nodes
    rank_small = let b = w.run.begun in omega (arith, s.small b.by (w.plan.nodes b.by (w.plan.marks.listed_one b.by b.marked)), b.same)

    -- The least ready node is next.
    pub choose_ready : (v : ℕ) (ready' : List ℕ) → TakesFresh done ready v ready' → IsChosen g ranks v listed done outside held starts ready' rest
    choose_ready v ready' t =
        let o = w.run.ready_only v t.was in
        choose v ready' rest o.1.0
        (record {
          node = o.0;
          fresh = t.fresh;
          first = inl (o.1.1, λ u less fu e z. let le = t.least u (w.run.ready_all u (omega (arith, o.0)) fu (e ∙ o.1.0) z) fu in omega (arith, le));
        })
        t.cut (cut_none done rest v)

    -- If none is ready, the least node of the component that isn't done is next.
    pub choose_rest : (v : ℕ) (rest' : List ℕ) → ((y : ℕ) → Contains ready y → IsDone done y) → TakesFresh done rest v rest' → IsChosen g ranks v listed done outside held starts [] rest'
    choose_rest v rest' none t =
        let o = w.run.rest_only v t.was in
        choose v [] rest' o.1
        (record {
          node = o.0;
          fresh = t.fresh;
          first = inr (
            λ u lu fu e z. fu (none u (w.run.ready_all u lu fu (e ∙ o.1) z)),
            λ u less fu e. let le = t.least u (w.run.rest_all u (omega (arith, o.0)) fu (e ∙ o.1)) fu in omega (arith, le),
          );
        })
        (cut_all done ready v none) t.cut

    -- If no node is left, the component is done.
    pub within_end : ((y : ℕ) → Contains rest y → IsDone done y) → IsPause g ranks listed done outside held starts
    within_end none =
        record {
          plan = w.plan;
          whole = λ d a b da lb fb e. absurd (fb (none b (w.run.rest_all b lb fb (sym e ∙ w.run.whole a b da lb fb e))));
        }

  module _ (q : IsPause g ranks listed done outside held starts) where
    never_begun : (u : ℕ) → u < g.nodes → ¬ IsDone done u → ¬ IsBegun ranks done (get_or ranks u 0)
    never_begun u lu fu b = let e = q.whole (suc (get_or ranks u 0)) b.by u b.marked lu fu b.same in omega (arith, e, b.same)

    small_rank : (u : ℕ) → u < g.nodes → get_or ranks u 0 < length outside
    small_rank u lu = omega (arith, s.small u lu, q.plan.outside_long)

    -- The least start is next when no component is done in part.
    pub choose_start : (v : ℕ) (starts' ready : List ℕ) → TakesFresh done starts v starts' → AreReadyBut g.nodes ranks held (get_or ranks v 0) v ready
        → IsChosen g ranks v listed done outside held starts' ready (drop 0 (places (get_or ranks v 0) ranks))
    choose_start v starts' ready t f =
        let p = q.plan in
        let lv = p.starts_nodes v t.was in
        let inside : v < length done = omega (arith, p.done_long, lv) in
        let older : (u : ℕ) → ¬ IsDone (set done v true) u → ¬ IsDone done u = λ u f d. f (done_kept done v u inside d) in
        let start : IsHead g.nodes ranks held done v × (get_or outside (get_or ranks v 0) 0 ≡ 0) =
        elim (p.starting v t.was) [ inl b ↦ absurd (never_begun v lv t.fresh b) | inr h ↦ h ]
        in
        record {
          before = starts;
          plan = p;
          cut = t.cut;
          next = next_start g s.digraph ranks s.ranking listed held done p.marks (holds_of g s.digraph ranks s.ranking listed done p.marks held p.held_long p.holding) p.nodes v start.0 q.whole
              (entered_of g ranks done outside p.entering (get_or ranks v 0) (small_rank v lv) start.1)
              (λ u lu fu e.
              elim (p.waiting u lu fu (zero_of g ranks done outside p.entering (get_or ranks u 0) (small_rank u lu) e)) [
                | inl b ↦ absurd (never_begun u lu fu b)
                | inr w ↦ (w.start, t.least w.start w.waits w.head.fresh, (w.head, sym w.same))
              ]);
          entered = start.1;
          run = record {
            whole = λ a b da lb fb e.
                elim (done_which done v a da) [
                  | inl is ↦ ap (λ x. get_or ranks x 0) is
                  | inr o ↦ q.whole (get_or ranks v 0) a b o lb (older b fb) e
                ];
            begun = record { by = v; marked = done_same done v inside; same = refl };
            ready_all = λ u lu fu e z. f.ready_all u lu e z (λ is. fu (rw is (done_same done v inside)));
            ready_only = f.ready_only;
            rest_all = λ u lu fu e. row_has g.nodes ranks (get_or ranks v 0) u s.ranking.long lu e;
            rest_only = λ u cu. row_member g.nodes ranks (get_or ranks v 0) s.ranking.long u cu;
          };
        }

    front : IsFront g ranks listed
    front =
        record {
          nodes = q.plan.nodes;
          one = λ a b c d ca lb nb e cc' ld nd e'. q.whole (get_or ranks c 0) a b (q.plan.marks.marked a ca) lb (λ m. nb (q.plan.marks.listed_one b m)) e;
          entered = λ a b c edge ne hc same.
              let lc = q.plan.nodes c hc in
              let z = q.plan.entered c (q.plan.marks.marked c hc) in
              q.plan.marks.listed_one a
              (entered_of g ranks done outside q.plan.entering (get_or ranks c 0) (small_rank c lc) z a b edge (sym same) (λ e. ne (e ∙ same)));
        }

    -- If no start is left, each node is done.
    pub all_done : ((y : ℕ) → Contains starts y → IsDone done y) → (u : ℕ) → u < g.nodes → IsDone done u
    all_done none u lu =
        elim (done_cases done u) [
          | inl d ↦ d
          | inr fu ↦
              absurd (
              let p = q.plan in
              let v = some_available g s.digraph ranks s.ranking listed front u lu (λ c. fu (p.marks.marked u c)) in
              let av = v.1 in
              let fv : ¬ IsDone done v.0 = λ d. av.fresh (p.marks.listed_one v.0 d) in
              let entered : IsEntered g ranks done (get_or ranks v.0 0) =
              λ a b edge eb na.
              let ends = nodes_of_edge g s.digraph edge in
              p.marks.marked a (av.entered a b edge (s.ranking.same b v.0 ends.1 av.node eb) (λ same. na (rank_same g s.digraph ranks s.ranking same)))
              in
              elim (p.waiting v.0 av.node fv (zero_of g ranks done outside p.entering (get_or ranks v.0 0) (small_rank v.0 av.node) entered)) [
                | inl b ↦ never_begun v.0 av.node fv b
                | inr w ↦ w.head.fresh (none w.start w.waits)
              ])
        ]

    pub order_end : ((y : ℕ) → Contains starts y → IsDone done y) → IsOrder g.edges g.nodes listed
    order_end none =
        let zero_left = count_zero (λ i. not (get_or done i false)) g.nodes (λ i h. let d = all_done none i h in rw d refl) in
        let long : length listed ≡ g.nodes = omega (arith, q.plan.counted, zero_left) in
        record { long = long; next = λ k h. q.plan.ordered k (omega (arith, long)) }

-- If the row of a component is ready, the nodes of the component are.
pub filled : (n : ℕ) (ranks held : List ℕ) (c v : ℕ) (ready : List ℕ) → length ranks ≡ n → RowWaits (places c ranks) held v ready → AreReadyBut n ranks held c v ready
filled n ranks held c v ready long w =
    record {
      ready_all = λ u lu e z ne. let r = row_complete ranks c u (omega (arith, long)) e in rw r.2 at (w.ready_all r.0 r.1 (rw (sym r.2) at z) (λ is. ne (sym r.2 ∙ is)));
      ready_only = λ u cu. let o = w.ready_only u cu in let m = row_member n ranks c long u o.0 in (m.0, (m.1, o.1));
    }

-- At first no node is done, and the head of each component that no edge enters is among the starts.
pub pause_first : (g : Graph) (ranks : List ℕ) (done : List Bool) (outside held starts : List ℕ) → length done ≡ g.nodes → length outside ≡ g.nodes → length held ≡ g.nodes → ((v : ℕ) → ¬ IsDone done v)
    → IsTally outside (length g.edges) (is_fresh g.edges done) (enters g.edges ranks) → IsTally held (length g.edges) (is_fresh g.edges done) (holds g.edges ranks)
    → ((u : ℕ) → u < g.nodes → get_or outside (get_or ranks u 0) 0 ≡ 0 → IsWaiting g.nodes ranks held done starts (get_or ranks u 0))
    → ((x : ℕ) → Contains starts x → IsHead g.nodes ranks held done x × (get_or outside (get_or ranks x 0) 0 ≡ 0))
    → IsPause g ranks [] done outside held starts
pause_first g ranks done outside held starts ld lo lh none entering holding waits starting =
    record {
      plan = record {
        nodes = λ a c. absurd (omega (arith, c.1));
        marks = record { marked = λ v c. absurd (omega (arith, c.1)); listed_one = λ v d. absurd (none v d) };
        done_long = ld;
        counted = let all = count_all (λ i. not (get_or done i false)) g.nodes (λ i h. elim (cases_Bool (get_or done i false)) [ inl t ↦ absurd (none i t) | inr f ↦ rw f refl ]) in omega (arith, all);
        outside_long = lo;
        held_long = lh;
        entering = entering;
        holding = holding;
        ordered = λ k h. absurd (omega arith);
        entered = λ a d. absurd (none a d);
        waiting = λ u lu fu z. inr (waits u lu z);
        starts_nodes = λ x c. (starting x c).0.node;
        starting = λ x c. inr (starting x c);
      };
      whole = λ c a b da. absurd (none a da);
    }
  where
    count_all : (t : ℕ → Bool) (n : ℕ) → ((i : ℕ) → i < n → t i ≡ true) → count_below t n ≡ n
    count_all t n e = count_full t n e
