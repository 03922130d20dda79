-- The first counts.
use Rattle.std.proofs.Common.{◌≡◌, ◌≢◌, ℕ, zero, suc, ◌+◌, ◌<◌, ◌≤◌, ◌⊎◌, inl, inr, Bool, true, false, ◌&&◌, eqb, not, List, [], length, get_or, map, set, refl, ap, sym, ◌∙◌, arith, Contains, slice_get, Some, nat_lt, replicate}
use Rattle.std.proofs.Math.ListN.{length-set}
use Rattle.std.proofs.lemmas.Bool.{cases_eq, cases_lt, cases_Bool, eq-eqb, lt-ltb, le-ltb}
use Rattle.std.proofs.lemmas.Option.{slice_get-get_or}
use Rattle.std.proofs.lemmas.List.{get_or-map, get_or-replicate, get_or_past, length-replicate}
use Rattle.digraphs.specs.declared.digraph.Edge.{Edge}
use Rattle.digraphs.specs.Graph.{Graph, IsDigraph, sources, targets}
use Rattle.digraphs.proofs.FaultLemmas.{nodes_of_edge}
use Rattle.digraph_orders.specs.inner.Counts.{count_below, enters, holds}
use Rattle.digraph_orders.specs.inner.Plans.{IsSetup, IsEdge, AreEntering, AreHolding, AreFirsts, IsFirst, IsWaiting, IsPause, is_fresh}
use Rattle.digraph_orders.specs.inner.Heads.{IsDone, IsHead}
use Rattle.digraphs.specs.Rows.{places}
use Rattle.digraph_orders.specs.inner.Queues.{Joins}
use Rattle.digraph_orders.proofs.GroupLemmas.{first_head, row_complete}
use Rattle.digraph_orders.proofs.CountLemmas.{count_zero, tally_skip, tally_add, tally_same, count_full}
use Rattle.digraph_orders.proofs.PlanLemmas.{eqb_false, edge_of_number}

pub lt_other : (i p : ℕ) → i ≢ p → nat_lt i (p + 1) ≡ nat_lt i p
lt_other i p ne =
    elim (cases_lt i p) [
      | inl l ↦ lt-ltb i (p + 1) (omega arith) ∙ sym (lt-ltb i p l)
      | inr ge ↦ le-ltb i (p + 1) (omega arith) ∙ sym (le-ltb i p ge)
    ]

pub and_off : (x : Bool) → (x && false) ≡ false
and_off true = refl
and_off false = refl

pub count_le : (t : ℕ → Bool) (n : ℕ) → count_below t n ≤ n
count_le t zero = omega arith
count_le t (suc n) = elim (cases_Bool (t n)) [ inl e ↦ rw e (omega (arith, count_le t n)) | inr e ↦ rw e (omega (arith, count_le t n)) ]

-- If one number fails the test, fewer than `n` pass.
pub count_lt : (t : ℕ → Bool) (n p : ℕ) → p < n → t p ≡ false → count_below t n < n
count_lt t zero p h e = absurd (omega arith)
count_lt t (suc n) p h e =
    elim (cases_eq p n) [
      | inl is ↦ let e' : t n ≡ false = rw is at e in rw e' (omega (arith, count_le t n))
      | inr ne ↦ let rest = count_lt t n p (omega arith) e in elim (cases_Bool (t n)) [ inl q ↦ rw q (omega (arith, rest)) | inr q ↦ rw q (omega (arith, rest)) ]
    ]

pub edge_is : (g : Graph) (i : ℕ) (e : Edge) → IsDigraph g → i < length g.edges → slice_get g.edges i ≡ Some e → IsEdge g i e.from e.to e.non_dev
edge_is g i e ok inside got =
    let read : slice_get g.edges i ≡ Some (get_or g.edges i e) = slice_get-get_or g.edges i e inside in
    let same : get_or g.edges i e ≡ e = cc in
    let from : get_or (sources g.edges) i 0 ≡ e.from = get_or-map (λ (d : Edge). d.from) g.edges i e 0 inside ∙ ap (λ (d : Edge). d.from) same in
    let to : get_or (targets g.edges) i 0 ≡ e.to = get_or-map (λ (d : Edge). d.to) g.edges i e 0 inside ∙ ap (λ (d : Edge). d.to) same in
    let ends = nodes_of_edge g ok (edge_of_number g.edges i inside) in
    record {
      within = inside;
      from_is = from;
      to_is = to;
      firm_is = get_or-map (λ (d : Edge). d.non_dev) g.edges i e false inside ∙ ap (λ (d : Edge). d.non_dev) same;
      node_from = rw from at ends.0;
      node_to = rw to at ends.1;
    }

pub holding_none : (g : Graph) (ranks counts : List ℕ) → length counts ≡ g.nodes → ((v : ℕ) → v < length counts → get_or counts v 0 ≡ 0) → AreHolding g ranks 0 counts
holding_none g ranks counts long z =
    record {
      long = long;
      tally = λ c h. z c h ∙ sym (count_zero (λ i. nat_lt i 0 && holds g.edges ranks c i) (length g.edges) (λ i l. rw (le-ltb i 0 (omega arith)) refl));
    }

-- Before the first component the starts are empty.
pub firsts_none : (ranks outside held : List ℕ) → AreFirsts ranks outside held 0 []
firsts_none ranks outside held =
    record {
      waits = λ c h some z. absurd (omega arith);
      only = λ x cx. absurd (omega (arith, cx.1));
    }

pub firsts_more : (ranks outside held : List ℕ) (k x : ℕ) (old new : List ℕ) → AreFirsts ranks outside held k old → get_or outside k 0 ≡ 0 → IsFirst (places k ranks) held x → Joins old x new → AreFirsts ranks outside held (k + 1) new
firsts_more ranks outside held k x old new a z f j =
    record {
      waits = λ c h some zc. elim (cases_eq c k) [ inl e ↦ (x, j.has, rw e f) | inr ne ↦ let w = a.waits c (omega arith) some zc in (w.0, j.kept w.0 w.1, w.2) ];
      only = λ y cy. elim (j.only y cy) [ inl e ↦ (k, z, rw e f) | inr o ↦ a.only y o ];
    }

pub firsts_skip : (ranks outside held : List ℕ) (k : ℕ) (old : List ℕ) → AreFirsts ranks outside held k old → (get_or outside k 0 ≢ 0) ⊎ (length (places k ranks) ≡ 0) → AreFirsts ranks outside held (k + 1) old
firsts_skip ranks outside held k old a off =
    record {
      waits = λ c h some zc.
          elim (cases_eq c k) [
            | inl e ↦ absurd (elim off [ inl nz ↦ nz (rw e at zc) | inr none ↦ let some' : 0 < length (places k ranks) = rw e at some in omega arith ])
            | inr ne ↦ a.waits c (omega arith) some zc
          ];
      only = a.only;
    }

-- The clauses of the first plan about its starts.
pub firsts_wait : (n : ℕ) (ranks outside held : List ℕ) (done : List Bool) (starts : List ℕ) → length ranks ≡ n → ((u : ℕ) → u < n → get_or ranks u 0 < n) → ((v : ℕ) → ¬ IsDone done v) → AreFirsts ranks outside held n starts
    → ((u : ℕ) → u < n → get_or outside (get_or ranks u 0) 0 ≡ 0 → IsWaiting n ranks held done starts (get_or ranks u 0))
    × ((x : ℕ) → Contains starts x → IsHead n ranks held done x × (get_or outside (get_or ranks x 0) 0 ≡ 0))
firsts_wait n ranks outside held done starts long small none a = (
  λ u lu z.
      let r = row_complete ranks (get_or ranks u 0) u (omega (arith, long)) refl in
      let w = a.waits (get_or ranks u 0) (small u lu) (omega (arith, r.1)) z in
      let h = first_head n ranks held done (get_or ranks u 0) w.0 long (λ v e. none v) w.2 in
      record { start = w.0; waits = w.1; same = h.0; head = h.1 },
  λ x cx.
      let w = a.only x cx in
      let h = first_head n ranks held done w.0 x long (λ v e. none v) w.2 in
      (h.1, rw h.0 w.1),
)

module _ (g : Graph) (ranks : List ℕ) (s : IsSetup g ranks) (i a b : ℕ) (firm : Bool) (e : IsEdge g i a b firm) (counts : List ℕ) (c : AreHolding g ranks i counts) where
  inside_b : b < length counts
  inside_b = omega (arith, e.node_to, c.long)

  pub room_held : get_or counts b 0 < length g.edges
  room_held =
      let z = c.tally b inside_b in
      let f = count_lt (λ j. nat_lt j i && holds g.edges ranks b j) (length g.edges) i e.within (rw (le-ltb i i (omega arith)) refl) in
      omega (arith, z, f)

  holds_other : (x : ℕ) → x ≢ b → holds g.edges ranks x i ≡ false
  holds_other x nx = let q : eqb (get_or (targets g.edges) i 0) x ≡ false = eqb_false _ _ (λ r. nx (sym r ∙ e.to_is)) in rw (q, and_off (get_or (map (λ (d : Edge). d.non_dev) g.edges) i false)) refl

  pub holding_add : get_or ranks a 0 ≡ get_or ranks b 0 → a ≢ b → firm ≡ true → AreHolding g ranks (i + 1) (set counts b (get_or counts b 0 + 1))
  holding_add same ne yes_firm =
      let e1 : eqb (get_or (targets g.edges) i 0) b ≡ true = eq-eqb _ _ e.to_is in
      let e2 : eqb (get_or ranks (get_or (sources g.edges) i 0) 0) (get_or ranks b 0) ≡ true = eq-eqb _ _ (ap (λ x. get_or ranks x 0) e.from_is ∙ same) in
      let e3 : eqb (get_or (sources g.edges) i 0) b ≡ false = eqb_false _ _ (λ q. ne (sym e.from_is ∙ q)) in
      record {
        long = length-set counts b (get_or counts b 0 + 1) ∙ c.long;
        tally = tally_add counts (length g.edges) (λ j. nat_lt j i) (λ j. nat_lt j (i + 1)) (holds g.edges ranks) i b e.within inside_b (le-ltb i i (omega arith)) (lt-ltb i (i + 1) (omega arith)) (rw (e.firm_is ∙ yes_firm, e1, e2, e3) refl)
            holds_other (λ j ne. lt_other j i ne) c.tally;
      }

  pub holding_skip : (get_or ranks a 0 ≢ get_or ranks b 0) ⊎ ((a ≡ b) ⊎ (firm ≡ false)) → AreHolding g ranks (i + 1) counts
  holding_skip off =
      record {
        long = c.long;
        tally = tally_skip counts (length g.edges) (λ j. nat_lt j i) (λ j. nat_lt j (i + 1)) (holds g.edges ranks) i
            (λ x lx. elim (cases_eq x b) [
              | inr nx ↦ holds_other x nx
              | inl is ↦
                  elim off [
                    | inl apart ↦
                        let q : eqb (get_or ranks (get_or (sources g.edges) i 0) 0) (get_or ranks x 0) ≡ false = eqb_false _ _ (λ r. apart (sym (ap (λ x. get_or ranks x 0) e.from_is) ∙ r ∙ ap (λ x. get_or ranks x 0) is)) in
                        rw q (and_off _)
                    | inr more ↦
                        elim more [
                          | inr soft ↦ rw (e.firm_is ∙ soft) refl
                          | inl loop ↦
                              let q : eqb (get_or (sources g.edges) i 0) x ≡ true = eq-eqb _ _ (e.from_is ∙ loop ∙ sym is) in
                              rw (q, and_off (eqb (get_or ranks (get_or (sources g.edges) i 0) 0) (get_or ranks x 0))) (and_off _)
                        ]
                  ]
            ]) (λ j ne. lt_other j i ne) c.tally;
      }

pub none_done : (n v : ℕ) → ¬ IsDone (replicate n false) v
none_done n v d =
    elim (cases_lt v n) [
      | inl l ↦ absurd (let c : false ≡ true = sym (get_or-replicate n v false false l) ∙ d in cc)
      | inr p ↦ absurd (let c : false ≡ true = sym (get_or_past (replicate n false) v false (omega (arith, length-replicate n false))) ∙ d in cc)
    ]

fresh_now : (n v : ℕ) → not (get_or (replicate n false) v false) ≡ true
fresh_now n v =
    elim (cases_lt v n) [
      | inl l ↦ rw (get_or-replicate n v false false l) refl
      | inr p ↦ rw (get_or_past (replicate n false) v false (omega (arith, length-replicate n false))) refl
    ]

-- With all edges counted and no node listed, the first plan is a pause.
pub first_pause : (g : Graph) (ranks : List ℕ) → IsSetup g ranks → (outside held starts : List ℕ) → AreEntering g ranks (length g.edges) outside → AreHolding g ranks (length g.edges) held → AreFirsts ranks outside held g.nodes starts
    → IsPause g ranks [] (replicate g.nodes false) outside held starts
first_pause g ranks s outside held starts entering holding firsts =
    let done : List Bool = replicate g.nodes false in
    let wait = firsts_wait g.nodes ranks outside held done starts s.ranking.long s.small (none_done g.nodes) firsts in
    let left : (i : ℕ) → i < length g.edges → is_fresh g.edges done i ≡ nat_lt i (length g.edges) =
    λ i l. fresh_now g.nodes (get_or (sources g.edges) i 0) ∙ sym (lt-ltb i (length g.edges) l)
    in
    record {
      plan = record {
        nodes = λ a ca. absurd (omega (arith, ca.1));
        marks = record { marked = λ v cv. absurd (omega (arith, cv.1)); listed_one = λ v d. absurd (none_done g.nodes v d) };
        done_long = length-replicate g.nodes false;
        counted = omega (arith, count_full (λ i. not (get_or done i false)) g.nodes (λ i l. fresh_now g.nodes i));
        outside_long = entering.long;
        held_long = holding.long;
        entering = tally_same outside (length g.edges) (λ i. nat_lt i (length g.edges)) (is_fresh g.edges done) (enters g.edges ranks) left entering.tally;
        holding = tally_same held (length g.edges) (λ i. nat_lt i (length g.edges)) (is_fresh g.edges done) (holds g.edges ranks) left holding.tally;
        ordered = λ k l. absurd (omega arith);
        entered = λ a d. absurd (none_done g.nodes a d);
        waiting = λ u lu fresh z. inr (wait.0 u lu z);
        starts_nodes = λ x cx. (wait.1 x cx).0.node;
        starting = λ x cx. inr (wait.1 x cx);
      };
      whole = λ c a b da lb fb same. absurd (none_done g.nodes a da);
    }
