-- Each digraph has an order.
use Rattle.std.proofs.Common.{◌≡◌, ℕ, zero, suc, ◌+◌, ◌*◌, ◌<◌, ◌≤◌, ◌⊎◌, inl, inr, Bool, true, false, List, [], ◌∷◌, ◌++◌, length, get_or, map, take, refl, ap, sym, ◌∙◌, subst, arith, Contains, length-append}
use Rattle.std.specs.List.{range_with_len}
use Rattle.std.proofs.Math.Nat.{mul-le-mul_right}
use Rattle.std.proofs.lemmas.Bool.{cases_eq, cases_lt, cases_order, cases_Bool}
use Rattle.std.proofs.lemmas.List.{get_or_default, get_or_append_left, get_or_at, take-append-le, take_at}
use Rattle.std.proofs.lemmas.List.FromFn.{length-map-range_with_len, get_or-map-range_with_len}
use Rattle.digraphs.specs.declared.digraph.Edge.{Edge}
use Rattle.digraphs.specs.Graph.{Graph, IsDigraph}
use Rattle.digraphs.specs.Paths.{HasEdge, Path, nowhere, onward, SameComponent}
use Rattle.digraph_orders.specs.Orders.{IsHeld, IsAvailable, IsNext}
use Rattle.digraph_orders.specs.inner.Ranks.{IsRanking}
use Rattle.digraph_orders.specs.inner.Counts.{count_below}
use Rattle.digraph_orders.specs.Laws.{OrderExists}
use Rattle.digraphs.proofs.FaultLemmas.{nodes_of_edge}
use Rattle.digraph_orders.proofs.PathLemmas.{join, one_edge, same_self, same_turned, same_joined}
use Rattle.digraph_orders.proofs.ContainsLemmas.{contains_cases}
use Rattle.digraph_orders.proofs.ApartLemmas.{apart_short}
use Rattle.digraph_orders.proofs.LawLemmas.{path_inside}
use Rattle.digraph_orders.proofs.Available.{search_below, search_nodes, and_cases, not_cases, edge_cases, IsFront, front_none, front_more, some_available, held_cases}

or_cases : (A B : Type 0) → A ⊎ ¬ A → B ⊎ ¬ B → (A ⊎ B) ⊎ ¬ (A ⊎ B)
or_cases A B a b =
    elim a [
      | inl x ↦ inl (inl x)
      | inr not_a ↦
          elim b [
            | inl y ↦ inl (inr y)
            | inr not_b ↦ inr (λ p. elim p [ inl x ↦ not_a x | inr y ↦ not_b y ])
          ]
    ]

-- Some least number below `n` passes, or none does.
first_below : (P : ℕ → Type 0) → ((k : ℕ) → P k ⊎ ¬ P k) → (n : ℕ) → ((k : ℕ) × (k < n) × P k × ((j : ℕ) → j < k → ¬ P j)) ⊎ ((k : ℕ) → k < n → ¬ P k)
first_below P test zero = inr (λ k h p. omega (arith, h))
first_below P test (suc n) =
    elim (first_below P test n) [
      | inl f ↦ inl (f.0, omega (arith, f.1), f.2, f.3)
      | inr none ↦
          elim (test n) [
            | inl p ↦ inl (n, omega arith, p, none)
            | inr fails ↦ inr (λ k h p. elim (cases_eq k n) [ inl e ↦ fails (rw e at p) | inr ne ↦ none k (omega arith) p ])
          ]
    ]

-- ---- whether a path leads from a to b

-- A path from `a` to `b` whose inner nodes are below `k`.
abbrev Through : List Edge → ℕ → ℕ → ℕ → Type 0
Through es zero a b = (a ≡ b) ⊎ HasEdge es a b
Through es (suc k) a b = Through es k a b ⊎ (Through es k a k × Through es k k b)

through_path : (es : List Edge) (k a b : ℕ) → Through es k a b → Path es a b
through_path es zero a b t = elim t [ inl e ↦ subst (Path es a) e nowhere | inr edge ↦ one_edge edge ]
through_path es (suc k) a b t =
    elim t [
      | inl p ↦ through_path es k a b p
      | inr p ↦ join (through_path es k a k p.0) (through_path es k k b p.1)
    ]

through_cases : (es : List Edge) (k a b : ℕ) → Through es k a b ⊎ ¬ Through es k a b
through_cases es zero a b = or_cases _ _ (cases_eq a b) (edge_cases es a b)
through_cases es (suc k) a b = or_cases _ _ (through_cases es k a b) (and_cases _ _ (through_cases es k a k) (through_cases es k k b))

through_start : (es : List Edge) (k a b : ℕ) → (a ≡ b) ⊎ HasEdge es a b → Through es k a b
through_start es zero a b t = t
through_start es (suc k) a b t = inl (through_start es k a b t)

to_last : (es : List Edge) (k a : ℕ) → Through es (suc k) a k → Through es k a k
to_last es k a t = elim t [ inl p ↦ p | inr p ↦ p.0 ]

from_last : (es : List Edge) (k b : ℕ) → Through es (suc k) k b → Through es k k b
from_last es k b t = elim t [ inl p ↦ p | inr p ↦ p.1 ]

through_joined : (es : List Edge) (k a m b : ℕ) → m < k → Through es k a m → Through es k m b → Through es k a b
through_joined es zero a m b h p q = absurd (omega arith)
through_joined es (suc k) a m b h p q =
    elim (cases_eq m k) [
      | inl e ↦ inr (to_last es k a (subst (λ x. Through es (suc k) a x) e p), from_last es k b (subst (λ x. Through es (suc k) x b) e q))
      | inr ne ↦
          let less : m < k = omega arith in
          elim p [
            | inl p' ↦
                elim q [
                  | inl q' ↦ inl (through_joined es k a m b less p' q')
                  | inr q' ↦ inr (through_joined es k a m k less p' q'.0, q'.1)
                ]
            | inr p' ↦
                elim q [
                  | inl q' ↦ inr (p'.0, through_joined es k k m b less p'.1 q')
                  | inr q' ↦ inr (p'.0, q'.1)
                ]
          ]
    ]

path_through : (g : Graph) → IsDigraph g → {a b : ℕ} → Path g.edges a b → Through g.edges g.nodes a b
path_through g ok (nowhere {a = a}) = through_start g.edges g.nodes a a (inl refl)
path_through g ok (onward {a = a} {b = c} {c = b} e p) =
    through_joined g.edges g.nodes a c b (nodes_of_edge g ok e).1 (through_start g.edges g.nodes a c (inr e)) (path_through g ok p)

path_cases : (g : Graph) → IsDigraph g → (a b : ℕ) → Path g.edges a b ⊎ ¬ Path g.edges a b
path_cases g ok a b =
    elim (through_cases g.edges g.nodes a b) [
      | inl t ↦ inl (through_path g.edges g.nodes a b t)
      | inr fails ↦ inr (λ p. fails (path_through g ok p))
    ]

same_cases : (g : Graph) → IsDigraph g → (a b : ℕ) → SameComponent g.edges a b ⊎ ¬ SameComponent g.edges a b
same_cases g ok a b =
    elim (and_cases _ _ (path_cases g ok a b) (path_cases g ok b a)) [
      | inl p ↦ inl (record { there = p.0; back = p.1 })
      | inr fails ↦ inr (λ s. fails (s.there, s.back))
    ]

-- ---- a ranking

told : {A : Type 0} → A ⊎ ¬ A → Bool
told d = elim d [ inl x ↦ true | inr fails ↦ false ]

told_so : {A : Type 0} (d : A ⊎ ¬ A) → told d ≡ true → A
unfolding told
told_so (inl x) e = x
told_so (inr fails) e = absurd (let c : false ≡ true = e in cc)

told_holds : {A : Type 0} (d : A ⊎ ¬ A) → A → told d ≡ true
unfolding told
told_holds (inl x) a = refl
told_holds (inr fails) a = absurd (fails a)

-- A weaker test passes at least as often, and more often if it passes at one more place.
count_more : (t s : ℕ → Bool) (n : ℕ) → ((i : ℕ) → i < n → t i ≡ true → s i ≡ true) → count_below t n ≤ count_below s n
count_more t s zero e = omega arith
count_more t s (suc n) e =
    let rest = count_more t s n (λ i h. e i (omega arith)) in
    elim (cases_Bool (t n)) [
      | inl holds ↦ rw (holds, e n (omega arith) holds) (omega (arith, rest))
      | inr fails ↦ elim (cases_Bool (s n)) [ inl also ↦ rw (fails, also) (omega (arith, rest)) | inr never ↦ rw (fails, never) (omega (arith, rest)) ]
    ]

count_most : (t s : ℕ → Bool) (n p : ℕ) → p < n → t p ≡ false → s p ≡ true → ((i : ℕ) → i < n → t i ≡ true → s i ≡ true) → count_below t n < count_below s n
count_most t s zero p h tp sp e = absurd (omega arith)
count_most t s (suc n) p h tp sp e =
    elim (cases_eq p n) [
      | inl is ↦
          let tn : t n ≡ false = rw is at tp in
          let sn : s n ≡ true = rw is at sp in
          rw (tn, sn) (omega (arith, count_more t s n (λ i l. e i (omega arith))))
      | inr ne ↦
          let rest = count_most t s n p (omega arith) tp sp (λ i l. e i (omega arith)) in
          elim (cases_Bool (t n)) [
            | inl holds ↦ rw (holds, e n (omega arith) holds) (omega (arith, rest))
            | inr fails ↦ elim (cases_Bool (s n)) [ inl also ↦ rw (fails, also) (omega (arith, rest)) | inr never ↦ rw (fails, never) (omega (arith, rest)) ]
          ]
    ]

module _ (g : Graph) (ok : IsDigraph g) where
  -- Whether a path leads from `u` to `v`.
  leads : ℕ → ℕ → Bool
  leads v u = told (path_cases g ok u v)

  -- The number of nodes with a path to `v`.
  sources_of : ℕ → ℕ
  sources_of v = count_below (leads v) g.nodes

  -- The least node of `v`'s component.
  record IsLeast (v k : ℕ) : Type 0 where
    pub node : k < g.nodes
    pub same : SameComponent g.edges k v
    pub first : (j : ℕ) → j < k → ¬ SameComponent g.edges j v

  least_of : (v : ℕ) → v < g.nodes → (k : ℕ) × IsLeast v k
  least_of v h =
      elim (first_below (λ k. SameComponent g.edges k v) (λ k. same_cases g ok k v) g.nodes) [
        | inl f ↦ (f.0, record { node = f.1; same = f.2; first = f.3 })
        | inr none ↦ absurd (none v h (same_self v))
      ]

  one_least : (a b j k : ℕ) → SameComponent g.edges a b → IsLeast a j → IsLeast b k → j ≡ k
  one_least a b j k s l m =
      elim (cases_order j k) [
        | inl e ↦ e
        | inr o ↦ elim o [ inl less ↦ absurd (m.first j less (same_joined l.same s)) | inr more ↦ absurd (l.first k more (same_joined m.same (same_turned s))) ]
      ]

  least : ℕ → ℕ
  least v = elim (cases_lt v g.nodes) [ inl h ↦ (least_of v h).0 | inr past ↦ 0 ]

  least_is : (v : ℕ) → v < g.nodes → IsLeast v (least v)
  unfolding least
  least_is v h = go (cases_lt v g.nodes)
    where
      go : (c : (v < g.nodes) ⊎ (g.nodes ≤ v)) → IsLeast v (elim c as (λ _. ℕ) [ inl l ↦ (least_of v l).0 | inr past ↦ 0 ])
      go (inl l) = (least_of v l).1
      go (inr past) = absurd (omega arith)

  -- The rank: first by the number of nodes that lead there, then by the component's least node.
  rank : ℕ → ℕ
  rank v = sources_of v * (g.nodes + 1) + least v

  more_sources : (a b : ℕ) → a < g.nodes → b < g.nodes → sources_of a < sources_of b → rank a < rank b
  unfolding rank
  more_sources a b ha hb h =
      let la = (least_is a ha).node in
      let step : suc (sources_of a) * (g.nodes + 1) ≤ sources_of b * (g.nodes + 1) = mul-le-mul_right (g.nodes + 1) h in
      let spread : suc (sources_of a) * (g.nodes + 1) ≡ sources_of a * (g.nodes + 1) + (g.nodes + 1) = grind arith in
      omega (arith, la, step, spread)

  rank_ascends : (a b : ℕ) → HasEdge g.edges a b → rank a ≤ rank b
  unfolding rank leads sources_of
  rank_ascends a b e =
      let ha = (nodes_of_edge g ok e).0 in
      let hb = (nodes_of_edge g ok e).1 in
      let on : (u : ℕ) → u < g.nodes → leads a u ≡ true → leads b u ≡ true =
      λ u h t. told_holds (path_cases g ok u b) (join (told_so (path_cases g ok u a) t) (one_edge e))
      in
      let own : leads b b ≡ true = told_holds (path_cases g ok b b) nowhere in
      elim (cases_Bool (leads a b)) [
        | inl back ↦
            let s : SameComponent g.edges a b = record { there = one_edge e; back = told_so (path_cases g ok b a) back } in
            let back_on : (u : ℕ) → u < g.nodes → leads b u ≡ true → leads a u ≡ true =
            λ u h t. told_holds (path_cases g ok u a) (join (told_so (path_cases g ok u b) t) s.back)
            in
            let low = count_more (leads a) (leads b) g.nodes on in
            let high = count_more (leads b) (leads a) g.nodes back_on in
            let same : sources_of a ≡ sources_of b = omega arith in
            let one : least a ≡ least b = one_least a b (least a) (least b) s (least_is a ha) (least_is b hb) in
            rw (same, one) (omega arith)
        | inr apart ↦ omega (arith, more_sources a b ha hb (count_most (leads a) (leads b) g.nodes b hb apart own on))
      ]

  rank_same : (a b : ℕ) → a < g.nodes → b < g.nodes → rank a ≡ rank b → SameComponent g.edges a b
  unfolding rank
  rank_same a b ha hb e =
      elim (cases_order (sources_of a) (sources_of b)) [
        | inl same ↦
            let e' : sources_of b * (g.nodes + 1) + least a ≡ sources_of b * (g.nodes + 1) + least b = rw same at e in
            let one : least a ≡ least b = omega arith in
            same_joined (same_turned (least_is a ha).same) (subst (λ k. SameComponent g.edges k b) (sym one) (least_is b hb).same)
        | inr o ↦ absurd (elim o [ inl less ↦ omega (arith, more_sources a b ha hb less, e) | inr more ↦ omega (arith, more_sources b a hb ha more, e) ])
      ]

  ranks : List ℕ
  ranks = map rank (range_with_len 0 g.nodes)

  rank_at : (v : ℕ) → v < g.nodes → get_or ranks v 0 ≡ rank v
  unfolding ranks
  rank_at v h = get_or-map-range_with_len rank 0 g.nodes v v 0 h (omega arith)

  is_ranking : IsRanking g ranks
  unfolding ranks
  is_ranking =
      record {
        long = length-map-range_with_len rank 0 g.nodes;
        levels = map rank (range_with_len 0 g.nodes);
        are = record {
          long = length-map-range_with_len rank 0 g.nodes;
          ascends = λ a b e.
              let ends = nodes_of_edge g ok e in
              rw (rank_at a ends.0, rank_at b ends.1) (rank_ascends a b e);
          same = λ a b ha hb e. rank_same a b ha hb (sym (rank_at a ha) ∙ e ∙ rank_at b hb);
        };
        one = λ a b ha hb e. e;
        same = λ a b ha hb e. rank_same a b ha hb (sym (rank_at a ha) ∙ e ∙ rank_at b hb);
      }

  -- ---- whether a node is available

  pairs_cases : (P : ℕ → ℕ → Type 0) → ((a b : ℕ) → P a b ⊎ ¬ P a b) → ((a : ℕ) × (b : ℕ) × (a < g.nodes) × (b < g.nodes) × P a b) ⊎ ((a b : ℕ) → a < g.nodes → b < g.nodes → ¬ P a b)
  pairs_cases P test =
      elim (search_below (λ a. (b : ℕ) × (b < g.nodes) × P a b)
      (λ a.
      elim (search_below (P a) (test a) g.nodes) [
        | inl f ↦ inl (f.0, f.1, f.2)
        | inr none ↦ inr (λ p. none p.0 p.1 p.2)
      ]) g.nodes) [
        | inl f ↦ inl (f.0, f.2.0, f.1, f.2.1, f.2.2)
        | inr none ↦ inr (λ a b ha hb p. none a ha (b, hb, p))
      ]

  module _ (list : List ℕ) (f : IsFront g ranks list) where
    -- `b` keeps `v` from being available: the component of `b` is listed in part.
    keeps_whole : ℕ → ℕ → ℕ → Type 0
    keeps_whole v a b = (Contains list a × SameComponent g.edges a b) × ((¬ SameComponent g.edges a v) × (¬ Contains list b))

    -- `a` keeps `v` from being available: an edge from it enters `v`'s component, and it isn't listed.
    keeps_entered : ℕ → ℕ → ℕ → Type 0
    keeps_entered v a b = (HasEdge g.edges a b × SameComponent g.edges b v) × ((¬ SameComponent g.edges a v) × (¬ Contains list a))

    -- If `v` is held, `b` keeps it from being available: `b` isn't held.
    keeps_ready : ℕ → ℕ → Type 0
    keeps_ready v b = SameComponent g.edges b v × ((¬ Contains list b) × (¬ IsHeld g.edges list b))

    listed_else : (b : ℕ) → ¬ (¬ Contains list b) → Contains list b
    listed_else b h = elim (contains_cases list b) [ inl c ↦ c | inr lacks ↦ absurd (h lacks) ]

    available_cases : (v : ℕ) → IsAvailable g.edges g.nodes list v ⊎ ¬ IsAvailable g.edges g.nodes list v
    unfolding keeps_whole keeps_entered keeps_ready
    available_cases v =
        elim (cases_lt v g.nodes) [
          | inr past ↦ inr (λ x. omega (arith, past, x.node))
          | inl node ↦
              elim (contains_cases list v) [
                | inl old ↦ inr (λ x. x.fresh old)
                | inr fresh ↦
                    elim (pairs_cases (keeps_whole v) (λ a b. and_cases _ _ (and_cases _ _ (contains_cases list a) (same_cases g ok a b)) (and_cases _ _ (not_cases _ (same_cases g ok a v)) (not_cases _ (contains_cases list b))))) [
                      | inl w ↦ inr (λ x. w.4.1.1 (x.whole w.0 w.1 w.4.0.0 w.4.0.1 w.4.1.0))
                      | inr whole ↦
                          elim (pairs_cases (keeps_entered v) (λ a b. and_cases _ _ (and_cases _ _ (edge_cases g.edges a b) (same_cases g ok b v)) (and_cases _ _ (not_cases _ (same_cases g ok a v)) (not_cases _ (contains_cases list a))))) [
                            | inl w ↦ inr (λ x. w.4.1.1 (x.entered w.0 w.1 w.4.0.0 w.4.0.1 w.4.1.0))
                            | inr entered ↦ ready_cases v node fresh whole entered (held_cases g ok ranks is_ranking list f v node)
                          ]
                    ]
              ]
        ]
      where
        ready_cases : (v : ℕ) → v < g.nodes → ¬ Contains list v → ((a b : ℕ) → a < g.nodes → b < g.nodes → ¬ keeps_whole v a b) → ((a b : ℕ) → a < g.nodes → b < g.nodes → ¬ keeps_entered v a b)
            → IsHeld g.edges list v ⊎ ¬ IsHeld g.edges list v → IsAvailable g.edges g.nodes list v ⊎ ¬ IsAvailable g.edges g.nodes list v
        ready_cases v node fresh whole entered held =
            let made : (¬ IsHeld g.edges list v) ⊎ ((b : ℕ) → SameComponent g.edges b v → ¬ Contains list b → IsHeld g.edges list b) → IsAvailable g.edges g.nodes list v =
            λ ready.
            record {
              node = node;
              fresh = fresh;
              whole = λ a b ca s apart. listed_else b (λ lacks. whole a b (f.nodes a ca) (path_inside g ok s.there (f.nodes a ca)) ((ca, s), (apart, lacks)));
              entered = λ a b e s apart. listed_else a (λ lacks. entered a b (nodes_of_edge g ok e).0 (nodes_of_edge g ok e).1 ((e, s), (apart, lacks)));
              ready = ready;
            }
            in
            elim held [
              | inr free ↦ inl (made (inl free))
              | inl is_held ↦
                  elim (search_nodes_held v node) [
                    | inl w ↦
                        inr (λ x.
                        elim x.ready [
                          | inl free ↦ free is_held
                          | inr all ↦ w.2.1.1 (all w.0 w.2.0 w.2.1.0)
                        ])
                    | inr none ↦ inl (made (inr (λ b s lacks. held_else b (path_inside g ok s.back node) (λ free. none b (path_inside g ok s.back node) (s, (lacks, free))))))
                  ]
            ]
          where
            search_nodes_held : (v : ℕ) → v < g.nodes → ((b : ℕ) × (b < g.nodes) × keeps_ready v b) ⊎ ((b : ℕ) → b < g.nodes → ¬ keeps_ready v b)
            search_nodes_held v node =
                search_nodes (keeps_ready v) g.nodes
                (λ b lb. and_cases _ _ (same_cases g ok b v) (and_cases _ _ (not_cases _ (contains_cases list b)) (not_cases _ (held_cases g ok ranks is_ranking list f b lb)))) g.nodes (omega arith)

            held_else : (b : ℕ) → b < g.nodes → ¬ (¬ IsHeld g.edges list b) → IsHeld g.edges list b
            held_else b lb h = elim (held_cases g ok ranks is_ranking list f b lb) [ inl held ↦ held | inr free ↦ absurd (h free) ]

    next_node : (u : ℕ) → u < g.nodes → ¬ Contains list u → (v : ℕ) × IsNext g.edges g.nodes list v
    next_node u hu fresh =
        elim (first_below (IsAvailable g.edges g.nodes list) available_cases g.nodes) [
          | inl w ↦ (w.0, record { available = w.2; least = w.3 })
          | inr none ↦ let s = some_available g ok ranks is_ranking list f u hu fresh in absurd (none s.0 s.1.node s.1)
        ]

  -- ---- the order

  place_in : List ℕ → ℕ → ℕ
  place_in list u = elim (contains_cases list u) [ inl c ↦ c.0 | inr lacks ↦ 0 ]

  place_is : (list : List ℕ) (u : ℕ) → Contains list u → (place_in list u < length list) × (get_or list (place_in list u) 0 ≡ u)
  unfolding place_in
  place_is list u known = go (contains_cases list u)
    where
      go : (c : Contains list u ⊎ ¬ Contains list u) → ((elim c as (λ _. ℕ) [ inl k ↦ k.0 | inr lacks ↦ 0 ]) < length list) × (get_or list (elim c as (λ _. ℕ) [ inl k ↦ k.0 | inr lacks ↦ 0 ]) 0 ≡ u)
      go (inl k) = (k.1, get_or_default list k.0 0 u k.1 ∙ k.2)
      go (inr lacks) = absurd (lacks known)

  -- A list that has each node has at least as many elements as there are nodes.
  long_enough : (list : List ℕ) → ((u : ℕ) → u < g.nodes → Contains list u) → g.nodes ≤ length list
  long_enough list all =
      let places : List ℕ = map (place_in list) (range_with_len 0 g.nodes) in
      let long : length places ≡ g.nodes = length-map-range_with_len (place_in list) 0 g.nodes in
      let read : (i : ℕ) → i < g.nodes → get_or places i 0 ≡ place_in list i = λ i h. get_or-map-range_with_len (place_in list) 0 g.nodes i i 0 h (omega arith) in
      omega (
        arith,
        long,
        apart_short places (length list)
            (λ i j l h e.
            let hj : j < g.nodes = omega arith in
            let hi : i < g.nodes = omega arith in
            let same : place_in list i ≡ place_in list j = sym (read i hi) ∙ e ∙ read j hj in
            let one : i ≡ j = sym (place_is list i (all i hi)).1 ∙ ap (λ (p : ℕ). get_or list p 0) same ∙ (place_is list j (all j hj)).1 in
            omega arith)
            (λ i h. let hi : i < g.nodes = omega arith in rw (read i hi) (place_is list i (all i hi)).0),
      )

  fresh_node : (list : List ℕ) → length list < g.nodes → (u : ℕ) × (u < g.nodes) × (¬ Contains list u)
  fresh_node list h =
      elim (search_below (λ u. ¬ Contains list u) (λ u. not_cases _ (contains_cases list u)) g.nodes) [
        | inl f ↦ f
        | inr none ↦ absurd (omega (arith, h, long_enough list (λ u hu. elim (contains_cases list u) [ inl c ↦ c | inr lacks ↦ absurd (none u hu lacks) ])))
      ]

  -- The first `k` nodes of an order.
  record IsBegin (k : ℕ) (list : List ℕ) : Type 0 where
    pub long : length list ≡ k
    pub front : IsFront g ranks list
    pub next : (i : ℕ) → i < k → IsNext g.edges g.nodes (take i list) (get_or list i 0)

  begin_of : (k : ℕ) → k ≤ g.nodes → (list : List ℕ) × IsBegin k list
  begin_of zero h = ([], record { long = refl; front = front_none g ranks; next = λ i l. absurd (omega arith) })
  begin_of (suc k) h =
      let b = begin_of k (omega arith) in
      let list = b.0 in
      let long : length list ≡ k = b.1.long in
      let u = fresh_node list (omega arith) in
      let v = next_node list b.1.front u.0 u.1 u.2 in (
        list ++ v.0 ∷ [],
        record {
          long = omega (arith, length-append list (v.0 ∷ []));
          front = front_more g ok ranks is_ranking list b.1.front v.0 v.1.available;
          next = λ i l.
              elim (cases_eq i k) [
                | inl e ↦
                    let front : take i (list ++ v.0 ∷ []) ≡ list = take_at list (v.0 ∷ []) i (omega arith) in
                    let here : get_or (list ++ v.0 ∷ []) i 0 ≡ v.0 = get_or_at list v.0 [] 0 i (omega arith) in
                    rw (front, here) v.1
                | inr ne ↦
                    let less : i < k = omega arith in
                    let front : take i (list ++ v.0 ∷ []) ≡ take i list = take-append-le i list (v.0 ∷ []) (omega arith) in
                    let here : get_or (list ++ v.0 ∷ []) i 0 ≡ get_or list i 0 = get_or_append_left list (v.0 ∷ []) 0 i (omega arith) in
                    rw (front, here) (b.1.next i less)
              ];
        },
      )

pub order_exists : OrderExists
order_exists g ok =
    let b = begin_of g ok g.nodes (omega arith) in
    (b.0, record { long = b.1.long; next = b.1.next })
