-- The counts of the edges that enter each component, where a node that is alone begins with its degree.
use Rattle.std.proofs.Common.{◌≡◌, ◌≢◌, ℕ, zero, suc, ◌+◌, ◌-◌, ◌<◌, ◌≤◌, inl, inr, Bool, true, false, ◌&&◌, cond, eqb, List, [], ◌∷◌, length, get_or, set, refl, ap, sym, ◌∙◌, arith, nat_lt, get_or-set_same, get_or-set_other}
use Rattle.std.proofs.Math.ListN.{length-set}
use Rattle.std.proofs.lemmas.Bool.{cases_eq, cases_Bool, eq-eqb, lt-ltb, le-ltb}
use Rattle.std.proofs.lemmas.Bool.Decides.{eqb_tells}
use Rattle.std.proofs.lemmas.List.{length-map}
use Rattle.digraphs.specs.Bits.{has}
use Rattle.digraphs.specs.declared.digraph.Edge.{Edge}
use Rattle.digraphs.specs.Graph.{Graph, sources, targets}
use Rattle.digraphs.specs.Rows.{places_from, places}
use Rattle.digraphs.proofs.FaultLemmas.{nodes_of_edge}
use Rattle.digraph_orders.specs.inner.Counts.{count_below, enters}
use Rattle.digraph_orders.specs.inner.Groups.{IsAlone}
use Rattle.digraph_orders.specs.inner.Plans.{IsSetup, IsEdge, AreEntering, AreDegrees, AreCounted, counted}
use Rattle.digraph_orders.proofs.CountLemmas.{count_same, count_fewer, count_zero}
use Rattle.digraph_orders.proofs.FirstLemmas.{lt_other, and_off, count_le}
use Rattle.digraph_orders.proofs.GroupLemmas.{alone_only}
use Rattle.digraph_orders.proofs.PlanLemmas.{eqb_false, edge_of_number}

count_first : (f : ℕ → Bool) (n : ℕ) → count_below f (suc n) ≡ cond (f 0) 1 0 + count_below (λ i. f (suc i)) n
count_first f zero = refl
count_first f (suc n) = rw (count_first f n) (omega arith)

count_places_from : (v s : ℕ) (xs : List ℕ) → count_below (λ i. eqb (get_or xs i 0) v) (length xs) ≡ length (places_from v s xs)
count_places_from v s [] = refl
count_places_from v s (x ∷ xs) =
    let first = count_first (λ i. eqb (get_or (x ∷ xs) i 0) v) (length xs) in
    let rest = count_places_from v (suc s) xs in
    elim (eqb_tells x v) [
      | inl t ↦ let f : count_below (λ i. eqb (get_or (x ∷ xs) i 0) v) (suc (length xs)) ≡ 1 + count_below (λ i. eqb (get_or xs i 0) v) (length xs) = rw t.0 at first in rw (f, t.0) (omega (arith, rest))
      | inr t ↦ let f : count_below (λ i. eqb (get_or (x ∷ xs) i 0) v) (suc (length xs)) ≡ 0 + count_below (λ i. eqb (get_or xs i 0) v) (length xs) = rw t.0 at first in rw (f, t.0) (omega (arith, rest))
    ]

count_places : (es : List Edge) (v : ℕ) → count_below (λ i. eqb (get_or (targets es) i 0) v) (length es) ≡ length (places v (targets es))
count_places es v = let l : length (targets es) ≡ length es = length-map es (λ (e : Edge). e.to) in rw l at (count_places_from v 0 (targets es))

pub degree_few : (es : List Edge) (v : ℕ) → length (places v (targets es)) ≤ length es
degree_few es v = omega (arith, count_places es v, count_le (λ i. eqb (get_or (targets es) i 0) v) (length es))

module _ (g : Graph) (several : List Bool) where
  pub degrees_none : (counts : List ℕ) → length counts ≡ g.nodes → ((v : ℕ) → get_or counts v 0 ≡ 0) → AreDegrees g several 0 counts
  degrees_none counts long z = record { long = long; lone = λ v h. absurd (omega (arith, h)); several_none = λ v h. z v; later_none = λ v h. z v }

  pub degrees_set : (k : ℕ) (counts : List ℕ) → AreDegrees g several k counts → k < g.nodes → has several k ≡ false → AreDegrees g several (k + 1) (set counts k (length (places k (targets g.edges))))
  degrees_set k counts d h off =
      let x = length (places k (targets g.edges)) in
      record {
        long = length-set counts k x ∙ d.long;
        lone = λ v l o. elim (cases_eq v k) [
          | inl e ↦ rw e (get_or-set_same counts k x 0 (omega (arith, h, d.long)))
          | inr ne ↦ get_or-set_other counts k v x 0 ne ∙ d.lone v (omega (arith, l, ne)) o
        ];
        several_none = λ v o. get_or-set_other counts k v x 0 (λ e. let o' : has several k ≡ true = rw e at o in let c : true ≡ false = sym o' ∙ off in absurd (cc)) ∙ d.several_none v o;
        later_none = λ v l. get_or-set_other counts k v x 0 (λ e. omega (arith, l, e)) ∙ d.later_none v (omega (arith, l));
      }

  pub degrees_skip : (k : ℕ) (counts : List ℕ) → AreDegrees g several k counts → has several k ≡ true → AreDegrees g several (k + 1) counts
  degrees_skip k counts d on =
      record {
        long = d.long;
        lone = λ v l o. elim (cases_eq v k) [
          | inl e ↦ absurd (let o' : has several k ≡ false = rw e at o in let c : true ≡ false = sym on ∙ o' in cc)
          | inr ne ↦ d.lone v (omega (arith, l, ne)) o
        ];
        several_none = d.several_none;
        later_none = λ v l. d.later_none v (omega (arith, l));
      }

  -- Before the first edge, the degrees are the counts.
  pub counted_none : (ranks counts : List ℕ) → AreDegrees g several g.nodes counts → AreCounted g ranks several 0 counts
  counted_none ranks counts d =
      let es = g.edges in
      let n = length es in
      let none : (i : ℕ) → nat_lt i 0 ≡ false = λ i. le-ltb i 0 (omega arith) in
      record {
        long = d.long;
        each = λ c h. elim (cases_Bool (has several c)) [
          | inl on ↦ d.several_none c on ∙ sym (count_zero (counted es ranks several 0 c) n (λ i l. rw (on, none i) refl))
          | inr off ↦
              d.lone c h off ∙ sym (count_places es c)
              ∙ count_same (λ i. eqb (get_or (targets es) i 0) c) (counted es ranks several 0 c) n (λ i l. rw (off, none i) (sym (and_true (eqb (get_or (targets es) i 0) c))))
        ];
      }
    where
      and_true : (x : Bool) → (x && true) ≡ x
      and_true true = refl
      and_true false = refl

module _ (g : Graph) (ranks : List ℕ) (s : IsSetup g ranks) (several : List Bool) (alone : (v : ℕ) → v < g.nodes → has several v ≡ false → IsAlone ranks v) where
  -- After the last edge, the counts are those of the edges that enter.
  pub counted_all : (counts : List ℕ) → AreCounted g ranks several (length g.edges) counts → AreEntering g ranks (length g.edges) counts
  counted_all counts a =
      let es = g.edges in
      let n = length es in
      record {
        long = a.long;
        tally = λ c h.
            let h' : c < g.nodes = omega (arith, h, a.long) in
            a.each c h'
            ∙ count_same (counted es ranks several n c) (λ i. nat_lt i n && enters es ranks c i) n
            (λ i l. elim (cases_Bool (has several c)) [
              | inl on ↦ rw on refl
              | inr off ↦
                  let ends = nodes_of_edge g s.digraph (edge_of_number es i l) in
                  rw (off, lt-ltb i n l, same c h' off (get_or (targets es) i 0) ends.1, same c h' off (get_or (sources es) i 0) ends.0) refl
            ]);
      }
    where
      same : (c : ℕ) → c < g.nodes → has several c ≡ false → (x : ℕ) → x < g.nodes → eqb (get_or ranks x 0) c ≡ eqb x c
      same c h off x hx =
          let a = alone c h off in
          elim (cases_eq x c) [
            | inl e ↦ eq-eqb (get_or ranks x 0) c (rw e a.rank) ∙ sym (eq-eqb x c e)
            | inr ne ↦ eqb_false (get_or ranks x 0) c (λ q. ne (alone_only ranks c (omega (arith, h, s.ranking.long)) a x (omega (arith, hx, s.ranking.long)) q)) ∙ sym (eqb_false x c ne)
          ]

  module _ (p a b : ℕ) (firm : Bool) (e : IsEdge g p a b firm) (counts : List ℕ) (k : AreCounted g ranks several p counts) where
    abbrev n : ℕ
    n = length g.edges

    abbrev old : ℕ → ℕ → Bool
    old c = counted g.edges ranks several p c

    abbrev new : ℕ → ℕ → Bool
    new c = counted g.edges ranks several (p + 1) c

    is_new : nat_lt p (p + 1) ≡ true
    is_new = lt-ltb p (p + 1) (omega arith)

    is_old : nat_lt p p ≡ false
    is_old = le-ltb p p (omega arith)

    elsewhere : (c i : ℕ) → i ≢ p → old c i ≡ new c i
    elsewhere c i ne = rw (lt_other i p ne) refl

    same_count : (c : ℕ) → c < g.nodes → old c p ≡ new c p → get_or counts c 0 ≡ count_below (new c) n
    same_count c h at = k.each c h ∙ count_same (old c) (new c) n (λ i l. elim (cases_eq i p) [ inl q ↦ rw q at | inr ne ↦ elsewhere c i ne ])

    -- The edge counts for no other component.
    other_lone : (c : ℕ) → has several c ≡ false → c ≢ b → old c p ≡ new c p
    other_lone c off ne = rw (off, e.to_is, eqb_false b c (λ q. ne (sym q))) refl

    not_entered : (c : ℕ) → has several c ≡ true → enters g.edges ranks c p ≡ false → old c p ≡ new c p
    not_entered c on off = rw (on, is_old, off) (sym (and_off (nat_lt p (p + 1))))

    other_rank : (c : ℕ) → get_or ranks b 0 ≢ c → enters g.edges ranks c p ≡ false
    other_rank c ne = rw (e.to_is, eqb_false (get_or ranks b 0) c ne) refl

    module _ (lone : has several b ≡ false) where
      other_than_lone : (c : ℕ) → c ≢ b → old c p ≡ new c p
      other_than_lone c ne =
          elim (cases_Bool (has several c)) [
            | inl on ↦ not_entered c on (other_rank c (λ q. ne (sym q ∙ (alone b e.node_to lone).rank)))
            | inr off ↦ other_lone c off ne
          ]

      at_lone : old b p ≡ true
      at_lone = rw (lone, e.to_is, eq-eqb b b refl, is_old) refl

      loop_fewer : a ≡ b → count_below (old b) n ≡ suc (count_below (new b) n)
      loop_fewer is = count_fewer (old b) (new b) n p e.within at_lone (rw (lone, e.to_is, e.from_is ∙ is, eq-eqb b b refl, is_new) refl) (elsewhere b)

      pub loop_positive : a ≡ b → 0 < get_or counts b 0
      loop_positive is = omega (arith, k.each b e.node_to, loop_fewer is)

      pub counted_loop : a ≡ b → AreCounted g ranks several (p + 1) (set counts b (get_or counts b 0 - 1))
      counted_loop is =
          let x = get_or counts b 0 - 1 in
          record {
            long = length-set counts b x ∙ k.long;
            each = λ c h. elim (cases_eq c b) [
              | inl q ↦ rw q (get_or-set_same counts b x 0 (omega (arith, e.node_to, k.long)) ∙ omega (arith, k.each b e.node_to, loop_fewer is))
              | inr ne ↦ get_or-set_other counts b c x 0 ne ∙ same_count c h (other_than_lone c ne)
            ];
          }

      pub counted_lone : a ≢ b → AreCounted g ranks several (p + 1) counts
      counted_lone apart =
          record {
            long = k.long;
            each = λ c h. elim (cases_eq c b) [
              | inl q ↦ rw q (same_count b e.node_to (at_lone ∙ sym (rw (lone, e.to_is, e.from_is, eq-eqb b b refl, eqb_false a b apart, is_new) refl)))
              | inr ne ↦ same_count c h (other_than_lone c ne)
            ];
          }

    module _ (on : has several b ≡ true) where
      lone_other : (c : ℕ) → has several c ≡ false → old c p ≡ new c p
      lone_other c off = other_lone c off (λ q. let off' : has several b ≡ false = rw q at off in let x : true ≡ false = sym on ∙ off' in absurd (cc))

      pub counted_inside : get_or ranks a 0 ≡ get_or ranks b 0 → AreCounted g ranks several (p + 1) counts
      counted_inside same =
          record {
            long = k.long;
            each = λ c h. same_count c h (elim (cases_Bool (has several c)) [
              | inr off ↦ lone_other c off
              | inl more ↦
                  not_entered c more (elim (cases_eq (get_or ranks b 0) c) [
                    | inr ne ↦ other_rank c ne
                    | inl is ↦
                        let from : eqb (get_or ranks (get_or (sources g.edges) p 0) 0) c ≡ true = eq-eqb _ _ (ap (λ x. get_or ranks x 0) e.from_is ∙ same ∙ is) in
                        rw from (and_off _)
                  ])
            ]);
          }

      rank_several : has several (get_or ranks b 0) ≡ true
      rank_several =
          elim (cases_Bool (has several (get_or ranks b 0))) [
            | inl yes_several ↦ yes_several
            | inr off ↦
                let d = get_or ranks b 0 in
                let small = s.small b e.node_to in
                let is = alone_only ranks d (omega (arith, small, s.ranking.long)) (alone d small off) b (omega (arith, e.node_to, s.ranking.long)) refl in
                absurd (let off' : has several b ≡ false = rw (sym is) at off in let x : true ≡ false = sym on ∙ off' in cc)
          ]

      module _ (apart : get_or ranks a 0 ≢ get_or ranks b 0) where
        enters_more : count_below (new (get_or ranks b 0)) n ≡ suc (count_below (old (get_or ranks b 0)) n)
        enters_more =
            let d = get_or ranks b 0 in
            let to : eqb (get_or ranks (get_or (targets g.edges) p 0) 0) d ≡ true = eq-eqb _ _ (ap (λ x. get_or ranks x 0) e.to_is) in
            let from : eqb (get_or ranks (get_or (sources g.edges) p 0) 0) d ≡ false = eqb_false _ _ (λ q. apart (sym (ap (λ x. get_or ranks x 0) e.from_is) ∙ q)) in
            count_fewer (new d) (old d) n p e.within (rw (rank_several, is_new, to, from) refl) (rw (rank_several, is_old) refl) (λ i ne. sym (elsewhere d i ne))

        pub counted_room : get_or counts (get_or ranks b 0) 0 < length g.edges
        counted_room = omega (arith, k.each (get_or ranks b 0) (s.small b e.node_to), enters_more, count_le (new (get_or ranks b 0)) n)

        pub counted_more : AreCounted g ranks several (p + 1) (set counts (get_or ranks b 0) (get_or counts (get_or ranks b 0) 0 + 1))
        counted_more =
            let d = get_or ranks b 0 in
            let x = get_or counts d 0 + 1 in
            let small = s.small b e.node_to in
            record {
              long = length-set counts d x ∙ k.long;
              each = λ c h. elim (cases_eq c d) [
                | inl q ↦ rw q (get_or-set_same counts d x 0 (omega (arith, small, k.long)) ∙ omega (arith, k.each d small, enters_more))
                | inr ne ↦
                    get_or-set_other counts d c x 0 ne
                    ∙ same_count c h (elim (cases_Bool (has several c)) [
                      | inr off ↦ lone_other c off
                      | inl more ↦ not_entered c more (other_rank c (λ q. ne (sym q)))
                    ])
              ];
            }
