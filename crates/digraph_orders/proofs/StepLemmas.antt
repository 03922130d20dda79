-- Marking a node and passing an edge keep a plan.
use Rattle.std.proofs.Common.{◌≡◌, ◌≢◌, ℕ, suc, ◌+◌, ◌<◌, ◌⊎◌, inl, inr, Bool, true, false, ◌&&◌, eqb, not, List, [], ◌∷◌, ◌++◌, length, get_or, take, map, set, refl, ap, sym, ◌∙◌, arith, get_or-set_same, get_or-set_other, length-append}
use Rattle.std.proofs.Math.ListN.{length-set}
use Rattle.std.proofs.lemmas.Bool.{cases_eq, cases_lt, cases_Bool, eq-eqb}
use Rattle.std.proofs.lemmas.List.{get_or_append_left, get_or_at, length-map, take-append-le, take_all}
use Rattle.std.proofs.lemmas.List.Elements.{Contains-push, Contains-push_cases, Contains-append_left}
use Rattle.digraphs.specs.declared.digraph.Edge.{Edge}
use Rattle.digraphs.specs.Graph.{Graph, sources, targets}
use Rattle.digraphs.specs.Rows.{places}
use Rattle.digraph_orders.specs.Orders.{IsNext}
use Rattle.digraph_orders.specs.inner.Queues.{Joins}
use Rattle.digraph_orders.specs.inner.Counts.{count_below, enters, holds}
use Rattle.digraph_orders.specs.inner.Heads.{IsDone, IsHead}
use Rattle.digraph_orders.specs.inner.Plans.{is_fresh, is_left, IsBegun, IsPlan, IsRun, AreCut, AreStarts, AreReady}
use Rattle.digraph_orders.proofs.CountLemmas.{count_fewer, tally_same, tally_skip, tally_pass}
use Rattle.digraph_orders.proofs.PlanLemmas.{eqb_false}
use Rattle.digraph_orders.proofs.RowLemmas.{done_same, done_kept, done_which, left_start, Steps}

-- A head stays a head if its component has no new node and no new counts.
pub head_same : (n : ℕ) (ranks held held' : List ℕ) (done done' : List Bool) (x : ℕ) → IsHead n ranks held done x → ¬ IsDone done' x
    → ((u : ℕ) → ¬ IsDone done' u → ¬ IsDone done u)
    → ((u : ℕ) → get_or ranks u 0 ≡ get_or ranks x 0 → get_or held' u 0 ≡ get_or held u 0)
    → IsHead n ranks held' done' x
head_same n ranks held held' done done' x h fresh older same =
    record {
      node = h.node;
      fresh = fresh;
      first = elim h.first [
        | inl free ↦ inl (same x refl ∙ free.0, λ u less fu e z. free.1 u less (older u fu) e (sym (same u e) ∙ z))
        | inr stuck ↦ inr (λ u lu fu e z. stuck.0 u lu (older u fu) e (sym (same u e) ∙ z), λ u less fu. stuck.1 u less (older u fu))
      ];
    }

pub ordered_push : (P : List ℕ → ℕ → Type 0) (listed : List ℕ) (v : ℕ) → ((k : ℕ) → k < length listed → P (take k listed) (get_or listed k 0)) → P listed v
    → (k : ℕ) → k < length (listed ++ v ∷ []) → P (take k (listed ++ v ∷ [])) (get_or (listed ++ v ∷ []) k 0)
ordered_push P listed v old new k h =
    let long = length-append listed (v ∷ []) in
    let front : take k (listed ++ v ∷ []) ≡ take k listed = take-append-le k listed (v ∷ []) (omega (arith, h, long)) in
    elim (cases_lt k (length listed)) [
      | inl l ↦ rw (front, get_or_append_left listed (v ∷ []) 0 k l) (old k l)
      | inr ge ↦
          let is : length listed ≡ k = omega (arith, h, long) in
          rw (front, take_all k listed (omega arith), get_or_at listed v [] 0 k is) new
    ]

-- Marking a node leaves one node fewer that isn't done.
unseen_less : (done : List Bool) (v n : ℕ) → v < n → v < length done → ¬ IsDone done v → count_below (λ i. not (get_or done i false)) n ≡ suc (count_below (λ i. not (get_or (set done v true) i false)) n)
unseen_less done v n lv inside fresh =
    let off : get_or done v false ≡ false = elim (cases_Bool (get_or done v false)) [ inl t ↦ absurd (fresh t) | inr f ↦ f ] in
    let on : get_or (set done v true) v false ≡ true = done_same done v inside in
    count_fewer (λ i. not (get_or done i false)) (λ i. not (get_or (set done v true) i false)) n v lv (rw off refl) (rw on refl)
    (λ i ne. rw (get_or-set_other done v i true false ne) refl)

-- A start that is done may be removed.
pub plan_cut : (g : Graph) (ranks listed : List ℕ) (done done' : List Bool) (left : ℕ → Bool) (outside held before starts : List ℕ) (v : ℕ) → IsPlan g ranks listed done' left outside held before → IsDone done' v
    → ((u : ℕ) → ¬ IsDone done' u → ¬ IsDone done u) → AreCut done before v starts → IsPlan g ranks listed done' left outside held starts
plan_cut g ranks listed done done' left outside held before starts v p d older cut =
    record {
      nodes = p.nodes;
      marks = p.marks;
      done_long = p.done_long;
      counted = p.counted;
      outside_long = p.outside_long;
      held_long = p.held_long;
      entering = p.entering;
      holding = p.holding;
      ordered = p.ordered;
      entered = p.entered;
      waiting = λ u lu fu z.
          elim (p.waiting u lu fu z) [
            | inl b ↦ inl b
            | inr w ↦ inr (record { start = w.start; waits = cut.kept w.start w.waits (older w.start w.head.fresh) (λ e. w.head.fresh (rw e d)); same = w.same; head = w.head })
          ];
      starts_nodes = λ x c. p.starts_nodes x (cut.only x c);
      starting = λ x c. p.starting x (cut.only x c);
    }

module _ (g : Graph) (ranks listed : List ℕ) (done : List Bool) (outside held starts : List ℕ) (v : ℕ) where
  -- Listing and marking the next node leaves its edges to be passed.
  pub plan_mark : IsPlan g ranks listed done (is_fresh g.edges done) outside held starts → v < g.nodes → ¬ IsDone done v → get_or outside (get_or ranks v 0) 0 ≡ 0 → IsNext g.edges g.nodes listed v
      → IsPlan g ranks (listed ++ v ∷ []) (set done v true) (is_left g.edges (set done v true) (places v (sources g.edges)) 0) outside held starts
  plan_mark p lv fresh zero_v next =
      let inside : v < length done = omega (arith, p.done_long) in
      let older : (u : ℕ) → ¬ IsDone (set done v true) u → ¬ IsDone done u = λ u f d. f (done_kept done v u inside d) in
      let edges : length (sources g.edges) ≡ length g.edges = length-map g.edges (λ (e : Edge). e.from) in
      let same : (i : ℕ) → i < length g.edges → is_left g.edges (set done v true) (places v (sources g.edges)) 0 i ≡ is_fresh g.edges done i =
      λ i h. left_start g.edges done v fresh inside i (omega arith)
      in
      let begun_kept : (c : ℕ) → IsBegun ranks done c → IsBegun ranks (set done v true) c =
      λ c b. record { by = b.by; marked = done_kept done v b.by inside b.marked; same = b.same }
      in
      let begun_now : (c : ℕ) → c ≡ get_or ranks v 0 → IsBegun ranks (set done v true) c =
      λ c e. record { by = v; marked = done_same done v inside; same = sym e }
      in
      let still : (x : ℕ) → get_or ranks x 0 ≢ get_or ranks v 0 → IsHead g.nodes ranks held done x → IsHead g.nodes ranks held (set done v true) x =
      λ x ne h.
      head_same g.nodes ranks held held done (set done v true) x h
      (λ d. elim (done_which done v x d) [ inl e ↦ ne (ap (λ y. get_or ranks y 0) e) | inr o ↦ h.fresh o ])
      older (λ u e. refl)
      in
      record {
        nodes = λ a c. elim (Contains-push_cases listed v a c) [ inl old ↦ p.nodes a old | inr e ↦ rw (sym e) lv ];
        marks = record {
          marked = λ a c. elim (Contains-push_cases listed v a c) [ inl old ↦ done_kept done v a inside (p.marks.marked a old) | inr e ↦ rw (sym e) (done_same done v inside) ];
          listed_one = λ a d. elim (done_which done v a d) [ inl e ↦ rw e (Contains-push listed v) | inr o ↦ Contains-append_left listed (v ∷ []) a (p.marks.listed_one a o) ];
        };
        done_long = length-set done v true ∙ p.done_long;
        counted = let long = length-append listed (v ∷ []) in omega (arith, p.counted, long, unseen_less done v g.nodes lv inside fresh);
        outside_long = p.outside_long;
        held_long = p.held_long;
        entering = tally_same outside (length g.edges) _ _ (enters g.edges ranks) same p.entering;
        holding = tally_same held (length g.edges) _ _ (holds g.edges ranks) same p.holding;
        ordered = ordered_push (λ front x. IsNext g.edges g.nodes front x) listed v p.ordered next;
        entered = λ a d. elim (done_which done v a d) [ inl e ↦ rw e zero_v | inr o ↦ p.entered a o ];
        waiting = λ u lu fu z.
            elim (cases_eq (get_or ranks u 0) (get_or ranks v 0)) [
              | inl e ↦ inl (begun_now _ e)
              | inr ne ↦
                  elim (p.waiting u lu (older u fu) z) [
                    | inl b ↦ inl (begun_kept _ b)
                    | inr w ↦ inr (record { start = w.start; waits = w.waits; same = w.same; head = still w.start (λ e. ne (sym w.same ∙ e)) w.head })
                  ]
            ];
        starts_nodes = p.starts_nodes;
        starting = λ x c.
            elim (cases_eq (get_or ranks x 0) (get_or ranks v 0)) [
              | inl e ↦ inl (begun_now _ e)
              | inr ne ↦ elim (p.starting x c) [ inl b ↦ inl (begun_kept _ b) | inr w ↦ inr (still x ne w.0, w.1) ]
            ];
      }

  -- Removing the marked node from the queues of its component keeps `IsRun`.
  pub run_mark : (ready ready' rest rest' : List ℕ) → IsRun g ranks done held ready rest (get_or ranks v 0) → v < length done → AreCut done ready v ready' → AreCut done rest v rest'
      → IsRun g ranks (set done v true) held ready' rest' (get_or ranks v 0)
  run_mark ready ready' rest rest' r inside a b =
      let older : (u : ℕ) → ¬ IsDone (set done v true) u → ¬ IsDone done u = λ u f d. f (done_kept done v u inside d) in
      let other : (u : ℕ) → ¬ IsDone (set done v true) u → u ≢ v = λ u f e. f (rw e (done_same done v inside)) in
      record {
        whole = λ x y dx ly fy e. elim (done_which done v x dx) [ inl is ↦ ap (λ z. get_or ranks z 0) is | inr o ↦ r.whole x y o ly (older y fy) e ];
        begun = record { by = v; marked = done_same done v inside; same = refl };
        ready_all = λ u lu fu e z. a.kept u (r.ready_all u lu (older u fu) e z) (older u fu) (other u fu);
        ready_only = λ u c. r.ready_only u (a.only u c);
        rest_all = λ u lu fu e. b.kept u (r.rest_all u lu (older u fu) e) (older u fu) (other u fu);
        rest_only = λ u c. r.rest_only u (b.only u c);
      }

pub starts_more : (n : ℕ) (ranks held : List ℕ) (done : List Bool) (c x : ℕ) (old new : List ℕ) → get_or ranks x 0 ≡ c → IsHead n ranks held done x → Joins old x new → AreStarts n ranks held done 0 c old new
starts_more n ranks held done c x old new e h j =
    record {
      kept = j.kept;
      only = λ y cy. elim (j.only y cy) [ inl is ↦ inr (refl, (rw is e, rw is h)) | inr o ↦ inl o ];
      waits = λ z. record { start = x; waits = j.has; same = e; head = h };
    }

pub starts_same : (n : ℕ) (ranks held : List ℕ) (done : List Bool) (k c : ℕ) (old : List ℕ) → k ≢ 0 → AreStarts n ranks held done k c old old
starts_same n ranks held done k c old ne = record { kept = λ y h. h; only = λ y h. inl h; waits = λ z. absurd (ne z) }

module _ (g : Graph) (ranks listed : List ℕ) (done : List Bool) (left next : ℕ → Bool) (outside held starts : List ℕ) (p : IsPlan g ranks listed done left outside held starts)
    (i a b : ℕ) (s : Steps i (length g.edges) left next) (from : get_or (sources g.edges) i 0 ≡ a) (to : get_or (targets g.edges) i 0 ≡ b) (la : IsDone done a) (lb : b < g.nodes) (small : get_or ranks b 0 < g.nodes) where
  enters_other : (c : ℕ) → c ≢ get_or ranks b 0 → enters g.edges ranks c i ≡ false
  enters_other c ne = rw (to, eqb_false (get_or ranks b 0) c (λ e. ne (sym e))) refl

  enters_within : get_or ranks a 0 ≡ get_or ranks b 0 → (c : ℕ) → enters g.edges ranks c i ≡ false
  enters_within e c =
      elim (cases_eq c (get_or ranks b 0)) [
        | inr ne ↦ enters_other c ne
        | inl is ↦
            let yes_from : eqb (get_or ranks (get_or (sources g.edges) i 0) 0) c ≡ true = eq-eqb _ _ (ap (λ x. get_or ranks x 0) from ∙ e ∙ sym is) in
            rw yes_from (and_off _)
      ]
    where
      and_off : (x : Bool) → (x && false) ≡ false
      and_off true = refl
      and_off false = refl

  holds_apart : get_or ranks a 0 ≢ get_or ranks b 0 → (c : ℕ) → holds g.edges ranks c i ≡ false
  holds_apart ne c =
      elim (cases_eq b c) [
        | inl is ↦
            let off : eqb (get_or ranks (get_or (sources g.edges) i 0) 0) (get_or ranks c 0) ≡ false =
            eqb_false _ _ (λ e. ne (sym (ap (λ x. get_or ranks x 0) from) ∙ e ∙ ap (λ x. get_or ranks x 0) (sym is)))
            in
            rw off (and_off _)
        | inr other ↦ let off : eqb (get_or (targets g.edges) i 0) c ≡ false = eqb_false _ _ (λ e. other (sym to ∙ e)) in rw (off, and_off (get_or (map (λ (d : Edge). d.non_dev) g.edges) i false)) refl
      ]
    where
      and_off : (x : Bool) → (x && false) ≡ false
      and_off true = refl
      and_off false = refl

  -- Passing an edge into another component.
  pub pass_outside : get_or ranks a 0 ≢ get_or ranks b 0
      → (0 < get_or outside (get_or ranks b 0) 0)
      × ((k : ℕ) (starts' : List ℕ) → k + 1 ≡ get_or outside (get_or ranks b 0) 0 → AreStarts g.nodes ranks held done k (get_or ranks b 0) starts starts' → IsPlan g ranks listed done next (set outside (get_or ranks b 0) k) held starts')
  pass_outside ne =
      let d = get_or ranks b 0 in
      let ld : d < length outside = omega (arith, p.outside_long) in
      let here : enters g.edges ranks d i ≡ true =
      let e1 : eqb (get_or ranks (get_or (targets g.edges) i 0) 0) d ≡ true = eq-eqb _ _ (ap (λ x. get_or ranks x 0) to) in
      let e2 : eqb (get_or ranks (get_or (sources g.edges) i 0) 0) d ≡ false = eqb_false _ _ (λ e. ne (sym (ap (λ x. get_or ranks x 0) from) ∙ e)) in
      rw (e1, e2) refl
      in
      let tally = tally_pass outside (length g.edges) left next (enters g.edges ranks) i d s.within ld s.on s.off here enters_other s.others p.entering in
      let positive : get_or outside d 0 ≢ 0 = λ z. omega (arith, z, tally.0) in (
        tally.0,
        λ k starts' ek st.
            record {
              nodes = p.nodes;
              marks = p.marks;
              done_long = p.done_long;
              counted = p.counted;
              outside_long = length-set outside d k ∙ p.outside_long;
              held_long = p.held_long;
              entering = tally.1 k ek;
              holding = tally_skip held (length g.edges) left next (holds g.edges ranks) i (λ c h. holds_apart ne c) s.others p.holding;
              ordered = p.ordered;
              entered = λ x dx. elim (cases_eq (get_or ranks x 0) d) [ inl e ↦ absurd (positive (rw e at (p.entered x dx))) | inr o ↦ rw (get_or-set_other outside d (get_or ranks x 0) k 0 o) (p.entered x dx) ];
              waiting = λ u lu fu z.
                  elim (cases_eq (get_or ranks u 0) d) [
                    | inl e ↦
                        let z' : k ≡ 0 = rw (e, get_or-set_same outside d k 0 ld) at z in
                        inr (rw e (st.waits z'))
                    | inr o ↦
                        let z' : get_or outside (get_or ranks u 0) 0 ≡ 0 = rw (get_or-set_other outside d (get_or ranks u 0) k 0 o) at z in
                        elim (p.waiting u lu fu z') [
                          | inl begun ↦ inl begun
                          | inr w ↦ inr (record { start = w.start; waits = st.kept w.start w.waits; same = w.same; head = w.head })
                        ]
                  ];
              starts_nodes = λ x c. elim (st.only x c) [ inl o ↦ p.starts_nodes x o | inr h ↦ h.1.1.node ];
              starting = λ x c.
                  elim (st.only x c) [
                    | inl o ↦
                        elim (p.starting x o) [
                          | inl begun ↦ inl begun
                          | inr h ↦
                              let apart : get_or ranks x 0 ≢ d = λ e. positive (rw e at h.1) in
                              inr (h.0, rw (get_or-set_other outside d (get_or ranks x 0) k 0 apart) h.1)
                        ]
                    | inr h ↦ inr (h.1.1, rw (h.1.0, get_or-set_same outside d k 0 ld) h.0)
                  ];
            },
      )

  -- Passing an edge that isn't dev-only to another node of the same component.
  pub pass_held : get_or ranks a 0 ≡ get_or ranks b 0 → a ≢ b → get_or (map (λ (e : Edge). e.non_dev) g.edges) i false ≡ true
      → (0 < get_or held b 0) × ((k : ℕ) → k + 1 ≡ get_or held b 0 → IsPlan g ranks listed done next outside (set held b k) starts)
  pass_held same ne firm =
      let ld : b < length held = omega (arith, p.held_long) in
      let here : holds g.edges ranks b i ≡ true =
      let e1 : eqb (get_or (targets g.edges) i 0) b ≡ true = eq-eqb _ _ to in
      let e2 : eqb (get_or ranks (get_or (sources g.edges) i 0) 0) (get_or ranks b 0) ≡ true = eq-eqb _ _ (ap (λ x. get_or ranks x 0) from ∙ same) in
      let e3 : eqb (get_or (sources g.edges) i 0) b ≡ false = eqb_false _ _ (λ e. ne (sym from ∙ e)) in
      rw (firm, e1, e2, e3) refl
      in
      let off : (c : ℕ) → c ≢ b → holds g.edges ranks c i ≡ false = λ c nc. let q : eqb (get_or (targets g.edges) i 0) c ≡ false = eqb_false _ _ (λ e. nc (sym e ∙ to)) in rw (q, firm) refl in
      let tally = tally_pass held (length g.edges) left next (holds g.edges ranks) i b s.within ld s.on s.off here off s.others p.holding in
      let begun : IsBegun ranks done (get_or ranks b 0) = record { by = a; marked = la; same = same } in (
        tally.0,
        λ k ek.
            let still : (x : ℕ) → get_or ranks x 0 ≢ get_or ranks b 0 → IsHead g.nodes ranks held done x → IsHead g.nodes ranks (set held b k) done x =
            λ x nx h. head_same g.nodes ranks held (set held b k) done done x h h.fresh (λ u f. f)
            (λ u e. get_or-set_other held b u k 0 (λ is. nx (sym e ∙ ap (λ y. get_or ranks y 0) is)))
            in
            record {
              nodes = p.nodes;
              marks = p.marks;
              done_long = p.done_long;
              counted = p.counted;
              outside_long = p.outside_long;
              held_long = length-set held b k ∙ p.held_long;
              entering = tally_skip outside (length g.edges) left next (enters g.edges ranks) i (λ c h. enters_within same c) s.others p.entering;
              holding = tally.1 k ek;
              ordered = p.ordered;
              entered = p.entered;
              waiting = λ u lu fu z.
                  elim (cases_eq (get_or ranks u 0) (get_or ranks b 0)) [
                    | inl e ↦ inl (rw e begun)
                    | inr o ↦
                        elim (p.waiting u lu fu z) [
                          | inl y ↦ inl y
                          | inr w ↦ inr (record { start = w.start; waits = w.waits; same = w.same; head = still w.start (λ e. o (sym w.same ∙ e)) w.head })
                        ]
                  ];
              starts_nodes = p.starts_nodes;
              starting = λ x c.
                  elim (cases_eq (get_or ranks x 0) (get_or ranks b 0)) [
                    | inl e ↦ inl (rw e begun)
                    | inr o ↦ elim (p.starting x c) [ inl y ↦ inl y | inr h ↦ inr (still x o h.0, h.1) ]
                  ];
            },
      )

  -- Passing any other edge inside the component.
  pub pass_idle : get_or ranks a 0 ≡ get_or ranks b 0 → (a ≡ b) ⊎ (get_or (map (λ (e : Edge). e.non_dev) g.edges) i false ≡ false) → IsPlan g ranks listed done next outside held starts
  pass_idle same idle =
      record {
        nodes = p.nodes;
        marks = p.marks;
        done_long = p.done_long;
        counted = p.counted;
        outside_long = p.outside_long;
        held_long = p.held_long;
        entering = tally_skip outside (length g.edges) left next (enters g.edges ranks) i (λ c h. enters_within same c) s.others p.entering;
        holding = tally_skip held (length g.edges) left next (holds g.edges ranks) i (λ c h. off c) s.others p.holding;
        ordered = p.ordered;
        entered = p.entered;
        waiting = p.waiting;
        starts_nodes = p.starts_nodes;
        starting = p.starting;
      }
    where
      and_off : (x : Bool) → (x && false) ≡ false
      and_off true = refl
      and_off false = refl

      off : (c : ℕ) → holds g.edges ranks c i ≡ false
      off c =
          elim (cases_eq b c) [
            | inr other ↦ let q : eqb (get_or (targets g.edges) i 0) c ≡ false = eqb_false _ _ (λ e. other (sym to ∙ e)) in rw (q, and_off (get_or (map (λ (d : Edge). d.non_dev) g.edges) i false)) refl
            | inl is ↦
                elim idle [
                  | inr q ↦ rw q refl
                  | inl loop ↦
                      let q : eqb (get_or (sources g.edges) i 0) c ≡ true = eq-eqb _ _ (from ∙ loop ∙ is) in
                      rw (q, and_off (eqb (get_or ranks (get_or (sources g.edges) i 0) 0) (get_or ranks c 0))) (and_off _)
                ]
          ]

-- Subtracting a hold of `b` keeps `IsRun`; `b` may become ready.
pub run_held : (g : Graph) (ranks : List ℕ) (done : List Bool) (held ready ready' rest : List ℕ) (b k : ℕ) → IsRun g ranks done held ready rest (get_or ranks b 0) → b < length held → b < g.nodes → k + 1 ≡ get_or held b 0
    → AreReady k b ready ready'
    → IsRun g ranks done (set held b k) ready' rest (get_or ranks b 0)
run_held g ranks done held ready ready' rest b k r inside node ek a =
    record {
      whole = r.whole;
      begun = r.begun;
      ready_all = λ u lu fu e z.
          elim (cases_eq u b) [
            | inl is ↦ rw is (a.now (rw (is, get_or-set_same held b k 0 inside) at z))
            | inr ne ↦ a.kept u (r.ready_all u lu fu e (rw (get_or-set_other held b u k 0 ne) at z))
          ];
      ready_only = λ u c.
          elim (a.only u c) [
            | inl is ↦ (rw is.0 node, (ap (λ x. get_or ranks x 0) is.0, rw (is.0, get_or-set_same held b k 0 inside) is.1))
            | inr o ↦
                let f = r.ready_only u o in
                elim (cases_eq u b) [
                  | inl is ↦ absurd (let z : get_or held b 0 ≡ 0 = rw is at f.1.1 in omega arith)
                  | inr ne ↦ (f.0, (f.1.0, rw (get_or-set_other held b u k 0 ne) f.1.1))
                ]
          ];
      rest_all = r.rest_all;
      rest_only = r.rest_only;
    }
