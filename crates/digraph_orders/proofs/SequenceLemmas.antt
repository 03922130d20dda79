-- Components are numbered along the order.
use Rattle.std.proofs.Common.{◌≡◌, ◌≢◌, ℕ, zero, suc, ◌+◌, ◌-◌, ◌<◌, ◌≤◌, inl, inr, eqb, List, [], ◌∷◌, ◌++◌, length, get_or, map, take, drop, set, refl, ap, sym, ◌∙◌, subst, arith, slice_get, Some, get_or-set_same, get_or-set_other}
use Rattle.std.specs.Prelude.{filter}
use Rattle.std.proofs.lemmas.Bool.{cases_eq, cases_lt, cases_order, eq-eqb, ne_eqb, lt-ltb, le-ltb}
use Rattle.std.proofs.lemmas.List.{get_or-take, get_or-map, length-map, length-take, ext_get_or, get_or_append_left, get_or_at, length-append, get_or_default}
use Rattle.std.proofs.lemmas.List.Elements.{Contains-get_or}
use Rattle.std.proofs.lemmas.Option.{slice_get-get_or}
use Rattle.digraphs.specs.Graph.{Graph, IsDigraph}
use Rattle.digraphs.specs.declared.digraph.Edge.{Edge}
use Rattle.digraph_orders.specs.Laws.{OrderListsEach}
use Rattle.digraph_orders.specs.Orders.{IsOrder, ListsEach}
use Rattle.digraphs.specs.PackedRows.{below, AreBegun}
use Rattle.digraph_orders.specs.inner.Apart.{AreApart}
use Rattle.digraph_orders.specs.inner.Ranks.{IsRanking}
use Rattle.digraph_orders.specs.Sequences.{Sequence, IsSequence, IsOrderOf}
use Rattle.digraph_orders.specs.inner.Numbering.{ArePlaces, numbers_of, AreGrouped, rank_at, AreNumbered}
use Rattle.digraphs.proofs.PackedLemmas.{below_step, below-le-length}
use Rattle.digraph_orders.proofs.OrderLemmas.{listed_before, order_below, order_apart}
use Rattle.digraph_orders.proofs.ApartLemmas.{apart_whole}
use Rattle.digraph_orders.proofs.Available.{rank_same, path_node}

-- ---- along the order

module _ (g : Graph) (ok : IsDigraph g) (ranks : List ℕ) (r : IsRanking g ranks) (list : List ℕ) (o : IsOrder g.edges g.nodes list) where
  -- Between two nodes of one component there are only nodes of that component.
  pub together : (i k j : ℕ) → i < k → k < j → j < g.nodes → rank_at list ranks i ≡ rank_at list ranks j → rank_at list ranks i ≡ rank_at list ranks k
  together i k j lk lj h same =
      let hk : k < g.nodes = omega arith in
      let hi : i < g.nodes = omega arith in
      elim (cases_eq (rank_at list ranks i) (rank_at list ranks k)) [
        | inl e ↦ e
        | inr ne ↦
            absurd (
            let there = (o.next k hk).available.whole (get_or list i 0) (get_or list j 0) (listed_before o i k lk hk)
            (r.same (get_or list i 0) (get_or list j 0) (order_below o i hi) (order_below o j h) same)
            (λ s. ne (rank_same g ok ranks r s)) in
            let place = there.0 in
            let few : place < k = omega (arith, there.1, length-take k list) in
            let read : get_or list place 0 ≡ get_or list j 0 =
            sym (get_or-take k list place 0 few) ∙ get_or_default (take k list) place 0 (get_or list j 0) there.1 ∙ there.2
            in
            order_apart o place j (omega arith) (omega (arith, o.long)) read)
      ]

  module _ (numbers : List ℕ) (count : ℕ) (a : AreNumbered list ranks numbers count) (all : length numbers ≡ g.nodes) where
    number_step : (i : ℕ) → i + 1 < g.nodes → (get_or numbers i 0 ≤ get_or numbers (i + 1) 0) × (get_or numbers (i + 1) 0 ≤ get_or numbers i 0 + 1)
    number_step i h =
        let h' : i + 1 < length numbers = omega arith in
        elim (cases_eq (rank_at list ranks i) (rank_at list ranks (i + 1))) [
          | inl e ↦ let s = a.stays i h' e in (omega arith, omega arith)
          | inr ne ↦ let s = a.steps i h' ne in (omega arith, omega arith)
        ]

    number_along : (i d : ℕ) → i + d < g.nodes → get_or numbers i 0 ≤ get_or numbers (i + d) 0
    number_along i zero h = let e : i + 0 ≡ i = omega arith in rw e (omega arith)
    number_along i (suc d) h =
        let e : i + suc d ≡ i + d + 1 = omega arith in
        rw e (omega (arith, number_along i d (omega arith), (number_step (i + d) (omega arith)).0))

    pub number_rises : (i j : ℕ) → i ≤ j → j < g.nodes → get_or numbers i 0 ≤ get_or numbers j 0
    number_rises i j le h = let e : i + (j - i) ≡ j = omega arith in rw e at (number_along i (j - i) (omega arith))

    rank_number : (i d : ℕ) → i + d < g.nodes → rank_at list ranks i ≡ rank_at list ranks (i + d) → get_or numbers i 0 ≡ get_or numbers (i + d) 0
    rank_number i zero h e = let z : i + 0 ≡ i = omega arith in rw z refl
    rank_number i (suc d) h e =
        let z : i + suc d ≡ i + d + 1 = omega arith in
        let middle : rank_at list ranks i ≡ rank_at list ranks (i + d) =
        elim (cases_eq d 0) [
          | inl none ↦ let w : i + d ≡ i = omega arith in rw w refl
          | inr some ↦ together i (i + d) (i + suc d) (omega arith) (omega arith) h e
        ]
        in
        let last : rank_at list ranks (i + d) ≡ rank_at list ranks (i + d + 1) = sym middle ∙ rw z at e in
        let s = a.stays (i + d) (omega arith) last in
        rw z (rank_number i d (omega arith) middle ∙ sym s)

    number_rank : (i d : ℕ) → i + d < g.nodes → get_or numbers i 0 ≡ get_or numbers (i + d) 0 → rank_at list ranks i ≡ rank_at list ranks (i + d)
    number_rank i zero h e = let z : i + 0 ≡ i = omega arith in rw z refl
    number_rank i (suc d) h e =
        let z : i + suc d ≡ i + d + 1 = omega arith in
        let e' : get_or numbers i 0 ≡ get_or numbers (i + d + 1) 0 = rw z at e in
        let low = number_along i d (omega arith) in
        let step = number_step (i + d) (omega arith) in
        let before : get_or numbers i 0 ≡ get_or numbers (i + d) 0 = omega (arith, low, step.0, e') in
        let last : rank_at list ranks (i + d) ≡ rank_at list ranks (i + d + 1) =
        elim (cases_eq (rank_at list ranks (i + d)) (rank_at list ranks (i + d + 1))) [
          | inl same ↦ same
          | inr ne ↦ absurd (omega (arith, a.steps (i + d) (omega arith) ne, before, e'))
        ]
        in
        rw z (number_rank i d (omega arith) before ∙ last)

    pub same_number : (i j : ℕ) → i < g.nodes → j < g.nodes → rank_at list ranks i ≡ rank_at list ranks j → get_or numbers i 0 ≡ get_or numbers j 0
    same_number i j hi hj e =
        elim (cases_lt i j) [
          | inl l ↦ let z : i + (j - i) ≡ j = omega arith in rw z at (rank_number i (j - i) (omega arith) (rw z e))
          | inr ge ↦ let z : j + (i - j) ≡ i = omega arith in sym (rw z at (rank_number j (i - j) (omega arith) (rw z (sym e))))
        ]

    pub same_rank : (i j : ℕ) → i < g.nodes → j < g.nodes → get_or numbers i 0 ≡ get_or numbers j 0 → rank_at list ranks i ≡ rank_at list ranks j
    same_rank i j hi hj e =
        elim (cases_lt i j) [
          | inl l ↦ let z : i + (j - i) ≡ j = omega arith in rw z at (number_rank i (j - i) (omega arith) (rw z e))
          | inr ge ↦ let z : j + (i - j) ≡ i = omega arith in sym (rw z at (number_rank j (i - j) (omega arith) (rw z (sym e))))
        ]

    pub number_below : (i : ℕ) → i < g.nodes → get_or numbers i 0 < count
    number_below i h = omega (arith, number_rises i (g.nodes - 1) (omega arith) (omega arith), a.last (g.nodes - 1) (omega arith))

    -- Each number up to that of place `i` is at some place.
    number_found : (i c : ℕ) → i < g.nodes → c ≤ get_or numbers i 0 → (j : ℕ) × (j < g.nodes) × (get_or numbers j 0 ≡ c)
    number_found zero c h le = (0, h, omega (arith, a.first (omega arith)))
    number_found (suc i) c h le =
        elim (cases_lt (get_or numbers i 0) c) [
          | inr low ↦ number_found i c (omega arith) low
          | inl high ↦
              let z : suc i ≡ i + 1 = omega arith in
              let le' : c ≤ get_or numbers (i + 1) 0 = rw z at le in
              (suc i, h, rw z (omega (arith, (number_step i (omega arith)).1, le')))
        ]

    pub number_each : (c : ℕ) → c < count → (j : ℕ) × (j < g.nodes) × (get_or numbers j 0 ≡ c)
    number_each c h =
        elim (cases_eq g.nodes 0) [
          | inl none ↦ absurd (omega (arith, a.none (omega arith)))
          | inr some ↦ number_found (g.nodes - 1) c (omega arith) (omega (arith, a.last (g.nodes - 1) (omega arith)))
        ]

    -- Each node has the number of its place.
    module _ (component : List ℕ) (long : length component ≡ g.nodes) (put : (i : ℕ) → i < g.nodes → get_or component (get_or list i 0) 0 ≡ get_or numbers i 0) where
      place_of : (v : ℕ) → v < g.nodes → (k : ℕ) × (k < g.nodes) × (get_or list k 0 ≡ v)
      place_of v h =
          let p = apart_whole list g.nodes (order_apart o) (λ i l. order_below o i (omega (arith, o.long))) o.long v h in
          (p.0, omega (arith, p.1, o.long), p.2)

      number_of : (v : ℕ) (h : v < g.nodes) → get_or component v 0 ≡ get_or numbers (place_of v h).0 0
      number_of v h = let p = place_of v h in ap (λ (x : ℕ). get_or component x 0) (sym p.2) ∙ put p.0 p.1

      rank_of : (v : ℕ) (h : v < g.nodes) → rank_at list ranks (place_of v h).0 ≡ get_or ranks v 0
      rank_of v h = ap (λ (x : ℕ). get_or ranks x 0) (place_of v h).2

      pub order_of : IsOrderOf g (record { list = list; component = component; count = count })
      order_of =
          record {
            order = o;
            long = long;
            apart = λ x y hx hy e.
                let px = place_of x hx in
                let py = place_of y hy in
                r.same x y hx hy (sym (rank_of x hx) ∙ same_rank px.0 py.0 px.1 py.1 (sym (number_of x hx) ∙ e ∙ number_of y hy) ∙ rank_of y hy);
            same = λ x y hx s.
                let hy = path_node g ok ranks r s.there hx in
                let px = place_of x hx in
                let py = place_of y hy in
                number_of x hx ∙ same_number px.0 py.0 px.1 py.1 (rank_of x hx ∙ rank_same g ok ranks r s ∙ sym (rank_of y hy)) ∙ sym (number_of y hy);
            rising = λ i j l h. omega (arith, put i (omega arith), put j h, number_rises i j (omega arith) h);
            below = λ v h. let p = place_of v h in omega (arith, number_of v h, number_below p.0 p.1);
            each = λ c h. let f = number_each c h in (get_or list f.0 0, order_below o f.0 f.1, put f.0 f.1 ∙ f.2);
          }

      pub numbers_are : numbers_of list component ≡ numbers
      numbers_are =
          let same_length : length (numbers_of list component) ≡ g.nodes = length-map list (λ (v : ℕ). get_or component v 0) ∙ o.long in
          ext_get_or 0 (numbers_of list component) numbers (omega arith)
          (λ i l.
          let h : i < g.nodes = omega arith in
          get_or-map (λ (v : ℕ). get_or component v 0) list i 0 0 (omega (arith, o.long)) ∙ put i h)

      pub rises_along : (i j : ℕ) → i < j → j < length list → get_or component (get_or list i 0) 0 ≤ get_or component (get_or list j 0) 0
      rises_along i j l h = omega (arith, put i (omega (arith, o.long)), put j (omega (arith, o.long)), number_rises i j (omega arith) (omega (arith, o.long)))

-- ---- numbering one place more

pub numbered_none : (list ranks : List ℕ) → AreNumbered list ranks [] 0
numbered_none list ranks =
    record {
      none = λ e. refl;
      first = λ h. absurd (omega arith);
      last = λ i e. absurd (omega arith);
      stays = λ i h. absurd (omega arith);
      steps = λ i h. absurd (omega arith);
    }

pub numbered_more : (list ranks numbers : List ℕ) (count next : ℕ) → AreNumbered list ranks numbers count
    → (length numbers ≡ 0 → next ≡ count + 1)
    → ((i : ℕ) → i + 1 ≡ length numbers → rank_at list ranks i ≡ rank_at list ranks (length numbers) → next ≡ count)
    → ((i : ℕ) → i + 1 ≡ length numbers → rank_at list ranks i ≢ rank_at list ranks (length numbers) → next ≡ count + 1)
    → AreNumbered list ranks (numbers ++ (next - 1) ∷ []) next
numbered_more list ranks numbers count next a first stays steps =
    let n : ℕ = length numbers in
    let long : length (numbers ++ (next - 1) ∷ []) ≡ n + 1 = omega (arith, length-append numbers ((next - 1) ∷ [])) in
    let old : (i : ℕ) → i < n → get_or (numbers ++ (next - 1) ∷ []) i 0 ≡ get_or numbers i 0 = λ i h. get_or_append_left numbers ((next - 1) ∷ []) 0 i h in
    let here : get_or (numbers ++ (next - 1) ∷ []) n 0 ≡ next - 1 = get_or_at numbers (next - 1) [] 0 n refl in
    let positive : 0 < next =
    elim (cases_eq n 0) [
      | inl z ↦ omega (arith, first z)
      | inr some ↦
          let before = a.last (n - 1) (omega arith) in
          elim (cases_eq (rank_at list ranks (n - 1)) (rank_at list ranks n)) [
            | inl e ↦ omega (arith, before, stays (n - 1) (omega arith) e)
            | inr ne ↦ omega (arith, before, steps (n - 1) (omega arith) ne)
          ]
    ]
    in
    record {
      none = λ e. absurd (omega arith);
      first = λ h.
          elim (cases_eq n 0) [
            | inl z ↦ let at : get_or (numbers ++ (next - 1) ∷ []) 0 0 ≡ next - 1 = rw z at here in omega (arith, at, first z, a.none z)
            | inr some ↦ old 0 (omega arith) ∙ a.first (omega arith)
          ];
      last = λ i e. let is : i ≡ n = omega arith in rw is (omega (arith, here));
      stays = λ i h e.
          elim (cases_eq (i + 1) n) [
            | inr ne ↦ old (i + 1) (omega arith) ∙ a.stays i (omega arith) e ∙ sym (old i (omega arith))
            | inl is ↦ rw is (omega (arith, here, old i (omega arith), a.last i is, stays i is (rw is at e)))
          ];
      steps = λ i h ne.
          elim (cases_eq (i + 1) n) [
            | inr other ↦ old (i + 1) (omega arith) ∙ a.steps i (omega arith) ne ∙ ap (λ (k : ℕ). k + 1) (sym (old i (omega arith)))
            | inl is ↦ rw is (omega (arith, here, old i (omega arith), a.last i is, steps i is (rw is at ne)))
          ];
    }

-- Appending a number that is at least `c` doesn't change the count below `c`.
below_push : (c : ℕ) (xs : List ℕ) (y : ℕ) → c ≤ y → below c (xs ++ y ∷ []) ≡ below c xs
below_push c [] y h = rw (le-ltb y c h) refl
below_push c (x ∷ xs) y h = rw (below_push c xs y h) refl

below_all : (c : ℕ) (xs : List ℕ) → ((i : ℕ) → i < length xs → get_or xs i 0 < c) → below c xs ≡ length xs
below_all c [] h = refl
below_all c (x ∷ xs) h = rw (lt-ltb x c (h 0 (omega arith))) (omega (arith, below_all c xs (λ i l. h (suc i) (omega arith))))

-- A new component begins after all numbers so far.
pub begun_last : (numbers begins : List ℕ) (p : ℕ) → AreBegun numbers begins → ((i : ℕ) → i < length numbers → get_or numbers i 0 < length begins) → p ≡ length numbers → AreBegun numbers (begins ++ p ∷ [])
begun_last numbers begins p begun low is c h =
    elim (cases_eq c (length begins)) [
      | inl e ↦ rw (e, get_or_at begins p [] 0 (length begins) refl) (is ∙ sym (below_all (length begins) numbers low))
      | inr ne ↦
          let l : c < length begins = omega (arith, h, ne, length-append begins (p ∷ [])) in
          rw (get_or_append_left begins (p ∷ []) 0 c l) (begun c l)
    ]

-- The state while components are numbered.
pub record IsNumbering (list ranks numbers begins : List ℕ) (place : ℕ) : Type 0 where
  pub long : length numbers ≡ place
  pub numbered : AreNumbered list ranks numbers (length begins)
  pub begun : AreBegun numbers begins
  pub low : (i : ℕ) → i < length numbers → get_or numbers i 0 < length begins

pub numbering_none : (list ranks : List ℕ) → IsNumbering list ranks [] [] 0
numbering_none list ranks =
    record {
      long = refl;
      numbered = numbered_none list ranks;
      begun = λ c h. absurd (omega arith);
      low = λ i h. absurd (omega arith);
    }

low_more : (numbers : List ℕ) (n m : ℕ) → n ≤ m → 0 < m → ((i : ℕ) → i < length numbers → get_or numbers i 0 < n) → (i : ℕ) → i < length (numbers ++ (m - 1) ∷ []) → get_or (numbers ++ (m - 1) ∷ []) i 0 < m
low_more numbers n m le some low i h =
    elim (cases_eq i (length numbers)) [
      | inl e ↦ rw (e, get_or_at numbers (m - 1) [] 0 (length numbers) refl) (omega arith)
      | inr ne ↦
          let l : i < length numbers = omega (arith, h, ne, length-append numbers ((m - 1) ∷ [])) in
          rw (get_or_append_left numbers ((m - 1) ∷ []) 0 i l) (omega (arith, low i l))
    ]

begun_push : (numbers begins : List ℕ) → AreBegun numbers begins → AreBegun (numbers ++ (length begins - 1) ∷ []) begins
begun_push numbers begins begun c h = begun c h ∙ sym (below_push c numbers (length begins - 1) (omega arith))

-- Numbering one more place, with a new begin if the component is new.
pub numbering_more : (list ranks numbers begins begins' : List ℕ) (place : ℕ) → IsNumbering list ranks numbers begins place
    → (place ≡ 0 → begins' ≡ begins ++ place ∷ [])
    → ((i : ℕ) → i + 1 ≡ place → rank_at list ranks i ≡ rank_at list ranks place → begins' ≡ begins)
    → ((i : ℕ) → i + 1 ≡ place → rank_at list ranks i ≢ rank_at list ranks place → begins' ≡ begins ++ place ∷ [])
    → (0 < length begins') × IsNumbering list ranks (numbers ++ (length begins' - 1) ∷ []) begins' (place + 1)
numbering_more list ranks numbers begins begins' place n first stays steps =
    elim (cases_eq place 0) [
      | inl z ↦ grown (first z) (λ i e same. absurd (omega arith))
      | inr some ↦
          elim (cases_eq (rank_at list ranks (place - 1)) (rank_at list ranks place)) [
            | inl same ↦ kept (stays (place - 1) (omega arith) same) some (λ i e other. let is : i ≡ place - 1 = omega arith in other (rw is same))
            | inr other ↦ grown (steps (place - 1) (omega arith) other) (λ i e same. let is : i ≡ place - 1 = omega arith in other (rw is at same))
          ]
    ]
  where
    at_place : length numbers ≡ place
    at_place = n.long

    grown : begins' ≡ begins ++ place ∷ [] → ((i : ℕ) → i + 1 ≡ place → rank_at list ranks i ≢ rank_at list ranks place) → (0 < length begins') × IsNumbering list ranks (numbers ++ (length begins' - 1) ∷ []) begins' (place + 1)
    grown is apart =
        let count : length (begins ++ place ∷ []) ≡ length begins + 1 = length-append begins (place ∷ []) in
        rw is (
          omega (arith, count),
          record {
            long = omega (arith, length-append numbers ((length (begins ++ place ∷ []) - 1) ∷ []), n.long);
            numbered = numbered_more list ranks numbers (length begins) (length (begins ++ place ∷ [])) n.numbered (λ z. count) (λ i e same. absurd (apart i (e ∙ at_place) (rw at_place at same))) (λ i e ne. count);
            begun = begun_push numbers (begins ++ place ∷ []) (begun_last numbers begins place n.begun n.low (sym n.long));
            low = low_more numbers (length begins) (length (begins ++ place ∷ [])) (omega (arith, count)) (omega (arith, count)) n.low;
          },
        )

    kept : begins' ≡ begins → place ≢ 0 → ((i : ℕ) → i + 1 ≡ place → ¬ (rank_at list ranks i ≢ rank_at list ranks place)) → (0 < length begins') × IsNumbering list ranks (numbers ++ (length begins' - 1) ∷ []) begins' (place + 1)
    kept is some together =
        let last = n.numbered.last (place - 1) (omega (arith, n.long, some)) in
        let positive : 0 < length begins = omega (arith, last) in
        rw is (
          positive,
          record {
            long = omega (arith, length-append numbers ((length begins - 1) ∷ []), n.long);
            numbered = numbered_more list ranks numbers (length begins) (length begins) n.numbered (λ z. absurd (omega (arith, z, n.long, some))) (λ i e same. refl) (λ i e ne. absurd (together i (e ∙ at_place) (rw at_place at ne)));
            begun = begun_push numbers begins n.begun;
            low = low_more numbers (length begins) (length begins) (omega arith) positive n.low;
          },
        )

-- After a number is set for the node at place `k`, the list contains it there, and the same numbers as before for all other nodes.
module _ (list xs : List ℕ) (k y : ℕ) (h : k < length list) (long : length xs ≡ length list) (nodes : (i : ℕ) → i < length list → get_or list i 0 < length list) (apart : AreApart list) where
  pub written : get_or (set xs (get_or list k 0) y) (get_or list k 0) 0 ≡ y
  written = get_or-set_same xs (get_or list k 0) y 0 (omega (arith, nodes k h, long))

  pub unwritten : (i : ℕ) → i < length list → i ≢ k → get_or (set xs (get_or list k 0) y) (get_or list i 0) 0 ≡ get_or xs (get_or list i 0) 0
  unwritten i l ne =
      get_or-set_other xs (get_or list k 0) (get_or list i 0) y 0
      (λ e. elim (cases_lt i k) [ inl less ↦ apart i k less h e | inr ge ↦ apart k i (omega (arith, ge, ne)) l (sym e) ])

-- If `last` is the rank of the place before, a begin that compares `last` with the rank compares the two ranks.
pub ranks_compared : (list ranks begins begins' : List ℕ) (place last rank : ℕ) → ((i : ℕ) → i + 1 ≡ place → rank_at list ranks i ≡ last) → rank ≡ rank_at list ranks place
    → (0 < place → last ≡ rank → begins' ≡ begins) → (last ≢ rank → begins' ≡ begins ++ place ∷ [])
    → ((i : ℕ) → i + 1 ≡ place → rank_at list ranks i ≡ rank_at list ranks place → begins' ≡ begins)
    × ((i : ℕ) → i + 1 ≡ place → rank_at list ranks i ≢ rank_at list ranks place → begins' ≡ begins ++ place ∷ [])
ranks_compared list ranks begins begins' place last rank before here stays steps = (
  λ i e same. stays (omega (arith, e)) (sym (before i e) ∙ same ∙ sym here),
  λ i e ne. steps (λ q. ne (before i e ∙ q ∙ here)),
)

-- The last of some numbers and one more.
pub more_last : (numbers : List ℕ) (x k : ℕ) → length numbers ≡ k → get_or (numbers ++ x ∷ []) k 0 ≡ x
more_last numbers x k long = get_or_at numbers x [] 0 k long

pub more_kept : (numbers : List ℕ) (x i : ℕ) → i < length numbers → get_or (numbers ++ x ∷ []) i 0 ≡ get_or numbers i 0
more_kept numbers x i h = get_or_append_left numbers (x ∷ []) 0 i h

-- ---- the nodes of one component

-- If `f` ascends along the list, the elements with value `c` are consecutive, after those below.
pub run_of : (f : ℕ → ℕ) (xs : List ℕ) (c : ℕ) → ((i j : ℕ) → i < j → j < length xs → f (get_or xs i 0) ≤ f (get_or xs j 0))
    → take (below (c + 1) (map f xs) - below c (map f xs)) (drop (below c (map f xs)) xs) ≡ filter (λ v. eqb (f v) c) xs
run_of f [] c rising = refl
run_of f (x ∷ xs) c rising =
    let rest = run_of f xs c (λ i j l h. rising (suc i) (suc j) (omega arith) (omega arith)) in
    let above : (i : ℕ) → i < length xs → f x ≤ f (get_or xs i 0) = λ i h. rising 0 (suc i) (omega arith) (omega arith) in
    elim (cases_order (f x) c) [
      | inl e ↦
          let none : below c (map f xs) ≡ 0 = below_none f xs c (λ i h. omega (arith, above i h)) in
          let rest' : take (below (c + 1) (map f xs) - 0) (drop 0 xs) ≡ filter (λ v. eqb (f v) c) xs = rw none at rest in
          let z : below (c + 1) (map f xs) - 0 ≡ below (c + 1) (map f xs) = omega arith in
          let z' : 1 + below (c + 1) (map f xs) - 0 ≡ suc (below (c + 1) (map f xs)) = omega arith in
          rw (le-ltb (f x) c (omega arith), lt-ltb (f x) (c + 1) (omega arith), eq-eqb (f x) c e, none, z') (ap (λ (l : List ℕ). x ∷ l) (rw z at rest'))
      | inr r ↦
          elim r [
            | inl less ↦
                let z : 1 + below (c + 1) (map f xs) - (1 + below c (map f xs)) ≡ below (c + 1) (map f xs) - below c (map f xs) = omega arith in
                let s : 1 + below c (map f xs) ≡ suc (below c (map f xs)) = omega arith in
                rw (lt-ltb (f x) c less, lt-ltb (f x) (c + 1) (omega arith), ne_eqb (f x) c (λ e. omega arith), z, s) rest
            | inr more ↦
                rw (le-ltb (f x) c (omega arith), le-ltb (f x) (c + 1) (omega arith), ne_eqb (f x) c (λ e. omega arith)) (step (below c (map f xs)) (below (c + 1) (map f xs))
                (below_none f xs c (λ i h. omega (arith, above i h))) (below_none f xs (c + 1) (λ i h. omega (arith, above i h))) rest)
          ]
    ]
  where
    below_none : (f : ℕ → ℕ) (xs : List ℕ) (c : ℕ) → ((i : ℕ) → i < length xs → c ≤ f (get_or xs i 0)) → below c (map f xs) ≡ 0
    below_none f [] c h = refl
    below_none f (x ∷ xs) c h = rw (le-ltb (f x) c (h 0 (omega arith))) (omega (arith, below_none f xs c (λ i l. h (suc i) (omega arith))))

    step : (a b : ℕ) → a ≡ 0 → b ≡ 0 → take (b - a) (drop a xs) ≡ filter (λ v. eqb (f v) c) xs → take (0 + b - (0 + a)) (drop (0 + a) (x ∷ xs)) ≡ filter (λ v. eqb (f v) c) xs
    step a b za zb e = rw (za, zb) (rw (za, zb) at e)

-- If component numbers ascend along the list, the counts below each number group the list.
pub grouped : (count : ℕ) (list component numbers begins : List ℕ) → numbers_of list component ≡ numbers
    → ((i j : ℕ) → i < j → j < length list → get_or component (get_or list i 0) 0 ≤ get_or component (get_or list j 0) 0)
    → length begins ≡ count + 1 → ((c : ℕ) → c ≤ count → get_or begins c 0 ≡ below c numbers) → AreGrouped count list component begins
grouped count list component numbers begins are rising long begin =
    let f : ℕ → ℕ = λ v. get_or component v 0 in
    let at : (c : ℕ) → c ≤ count → get_or begins c 0 ≡ below c (map f list) = λ c h. begin c h ∙ ap (λ (ns : List ℕ). below c ns) (sym are) in
    record {
      long = long;
      rising = λ c h. omega (arith, at c (omega arith), at (c + 1) (omega arith), below_step c (c + 1) (map f list) (omega arith));
      within = λ c h. omega (arith, at c h, below-le-length c (map f list), length-map list f);
      run = λ c h. rw (at c (omega arith), at (c + 1) (omega arith)) (run_of f list c rising);
    }

-- ---- what an order lists

pub lists_each : {es : List Edge} {n : ℕ} {list : List ℕ} → IsOrder es n list → ListsEach n list
lists_each {n = n} {list = list} o =
    record {
      long = o.long;
      below = λ i h. order_below o i h;
      apart = λ i j l h. order_apart o i j l (omega (arith, o.long));
      every = λ v h.
          let k = apart_whole list n (order_apart o) (λ i l. order_below o i (omega (arith, o.long))) o.long v h in
          rw k.2 at (Contains-get_or list k.0 0 k.1);
    }

pub order_lists_each : OrderListsEach
order_lists_each g list o = lists_each o

pub sequence_of : (g : Graph) (o : Sequence) → IsOrderOf g o → IsSequence o
sequence_of g o is =
    let long : length o.list ≡ g.nodes = is.order.long in
    record {
      each = subst (λ (n : ℕ). ListsEach n o.list) (sym long) (lists_each is.order);
      long = is.long ∙ sym long;
      below = λ v h. is.below v (omega arith);
    }

pub place_read : (list places : List ℕ) → ArePlaces list places → ListsEach (length list) list → (v : ℕ) → v < length list → slice_get list (get_or places v 0) ≡ Some v
place_read list places p each v h =
    let c = each.every v h in
    let at : get_or list c.0 0 ≡ v = get_or_default list c.0 0 v c.1 ∙ c.2 in
    let place : get_or places v 0 ≡ c.0 = ap (λ (x : ℕ). get_or places x 0) (sym at) ∙ p.each c.0 c.1 in
    rw place (slice_get-get_or list c.0 v c.1 ∙ ap (λ (x : ℕ). Some x) c.2)
