-- Some node is available until all are listed.
use Rattle.std.proofs.Common.{◌≡◌, ◌≢◌, ℕ, zero, suc, ◌<◌, ◌≤◌, ◌⊎◌, inl, inr, Bool, true, false, List, [], ◌∷◌, ◌++◌, length, get_or, refl, ap, sym, ◌∙◌, arith, Contains}
use Rattle.std.proofs.lemmas.Bool.{cases_eq, cases_lt, cases_Bool}
use Rattle.std.proofs.lemmas.List.{get_or_default}
use Rattle.std.proofs.lemmas.List.Elements.{Contains-push_cases, Contains-append_left, Contains-get_or}
use Rattle.digraphs.specs.Graph.{Graph, IsDigraph}
use Rattle.digraphs.specs.declared.digraph.Edge.{Edge}
use Rattle.digraphs.specs.Paths.{HasEdge, HasFirmEdge, Path, nowhere, onward, SameComponent}
use Rattle.digraph_orders.specs.Orders.{IsHeld, IsAvailable}
use Rattle.digraphs.proofs.FaultLemmas.{nodes_of_edge}
use Rattle.digraph_orders.specs.inner.Ranks.{IsRanking}
use Rattle.digraph_orders.proofs.ContainsLemmas.{contains_cases}

-- Some number below `n` passes, or none does.
pub search_below : (P : ℕ → Type 0) → ((k : ℕ) → P k ⊎ ¬ P k) → (n : ℕ) → ((k : ℕ) × (k < n) × P k) ⊎ ((k : ℕ) → k < n → ¬ P k)
search_below P test zero = inr (λ k h p. omega (arith, h))
search_below P test (suc n) =
    elim (search_below P test n) [
      | inl f ↦ inl (f.0, omega (arith, f.1), f.2)
      | inr none ↦
          elim (test n) [
            | inl p ↦ inl (n, omega arith, p)
            | inr fails ↦ inr (λ k h p. elim (cases_eq k n) [ inl e ↦ fails (rw e at p) | inr ne ↦ none k (omega arith) p ])
          ]
    ]

-- The same for a test that is decided only below `m`.
pub search_nodes : (P : ℕ → Type 0) (m : ℕ) → ((k : ℕ) → k < m → P k ⊎ ¬ P k) → (n : ℕ) → n ≤ m → ((k : ℕ) × (k < n) × P k) ⊎ ((k : ℕ) → k < n → ¬ P k)
search_nodes P m test zero le = inr (λ k h p. omega (arith, h))
search_nodes P m test (suc n) le =
    elim (search_nodes P m test n (omega arith)) [
      | inl f ↦ inl (f.0, omega (arith, f.1), f.2)
      | inr none ↦
          elim (test n (omega arith)) [
            | inl p ↦ inl (n, omega arith, p)
            | inr fails ↦ inr (λ k h p. elim (cases_eq k n) [ inl e ↦ fails (rw e at p) | inr ne ↦ none k (omega arith) p ])
          ]
    ]

pub lt_cases : (a b : ℕ) → (a < b) ⊎ ¬ (a < b)
lt_cases a b = elim (cases_lt a b) [ inl l ↦ inl l | inr m ↦ inr (λ l. omega arith) ]

pub and_cases : (A B : Type 0) → A ⊎ ¬ A → B ⊎ ¬ B → (A × B) ⊎ ¬ (A × B)
and_cases A B a b =
    elim a [
      | inl x ↦ elim b [ inl y ↦ inl (x, y) | inr fails ↦ inr (λ p. fails p.1) ]
      | inr fails ↦ inr (λ p. fails p.0)
    ]

pub not_cases : (A : Type 0) → A ⊎ ¬ A → (¬ A) ⊎ ¬ (¬ A)
not_cases A a = elim a [ inl x ↦ inr (λ f. f x) | inr fails ↦ inl fails ]

module _ (g : Graph) (ok : IsDigraph g) (ranks : List ℕ) (r : IsRanking g ranks) where
  rank : ℕ → ℕ
  rank v = get_or ranks v 0

  pub level_path : {a b : ℕ} → Path g.edges a b → get_or r.levels a 0 ≤ get_or r.levels b 0
  level_path nowhere = omega arith
  level_path (onward {a = a} {b = b} e p) = omega (arith, r.are.ascends a b e, level_path p)

  pub path_node : {a b : ℕ} → Path g.edges a b → a < g.nodes → b < g.nodes
  path_node nowhere h = h
  path_node (onward e p) h = path_node p (nodes_of_edge g ok e).1

  rank_there : {a b : ℕ} → Path g.edges a b → get_or r.levels b 0 ≤ get_or r.levels a 0 → get_or ranks a 0 ≡ get_or ranks b 0
  rank_there nowhere back = refl
  rank_there (onward {a = a} {c = c} e p) back =
      let ends = nodes_of_edge g ok e in
      r.one a c ends.0 (path_node p ends.1) (omega (arith, back, level_path (onward e p)))

  pub rank_same : {a b : ℕ} → SameComponent g.edges a b → get_or ranks a 0 ≡ get_or ranks b 0
  rank_same s = rank_there s.there (level_path s.back)

no_edge : Edge
no_edge = record { from = 0; to = 0; non_dev = true }

pub firm_cases : (es : List Edge) (a b : ℕ) → HasFirmEdge es a b ⊎ ¬ HasFirmEdge es a b
firm_cases es a b =
    elim (search_below (λ k. ((get_or es k no_edge).from ≡ a) × (((get_or es k no_edge).to ≡ b) × ((get_or es k no_edge).non_dev ≡ true)))
    (λ k.
    and_cases _ _ (cases_eq (get_or es k no_edge).from a)
    (and_cases _ _ (cases_eq (get_or es k no_edge).to b) (bool_cases (get_or es k no_edge).non_dev)))
    (length es)) [
      | inl f ↦
          inl (record {
            edge = get_or es f.0 no_edge;
            listed = Contains-get_or es f.0 no_edge f.1;
            from = f.2.0;
            to = f.2.1.0;
            firm = f.2.1.1;
          })
      | inr none ↦
          inr (λ e.
          let is : get_or es e.listed.0 no_edge ≡ e.edge = get_or_default es e.listed.0 no_edge e.edge e.listed.1 ∙ e.listed.2 in
          none e.listed.0 e.listed.1 (ap (λ (d : Edge). d.from) is ∙ e.from, (ap (λ (d : Edge). d.to) is ∙ e.to, ap (λ (d : Edge). d.non_dev) is ∙ e.firm)))
    ]
  where
    bool_cases : (x : Bool) → (x ≡ true) ⊎ ¬ (x ≡ true)
    bool_cases x = elim (cases_Bool x) [ inl t ↦ inl t | inr f ↦ inr (λ t. let c : true ≡ false = sym t ∙ f in cc) ]

pub edge_cases : (es : List Edge) (a b : ℕ) → HasEdge es a b ⊎ ¬ HasEdge es a b
edge_cases es a b =
    elim (search_below (λ k. ((get_or es k no_edge).from ≡ a) × ((get_or es k no_edge).to ≡ b))
    (λ k. and_cases _ _ (cases_eq (get_or es k no_edge).from a) (cases_eq (get_or es k no_edge).to b)) (length es)) [
      | inl f ↦ inl (record { edge = get_or es f.0 no_edge; listed = Contains-get_or es f.0 no_edge f.1; from = f.2.0; to = f.2.1 })
      | inr none ↦
          inr (λ e.
          let is : get_or es e.listed.0 no_edge ≡ e.edge = get_or_default es e.listed.0 no_edge e.edge e.listed.1 ∙ e.listed.2 in
          none e.listed.0 e.listed.1 (ap (λ (d : Edge). d.from) is ∙ e.from, ap (λ (d : Edge). d.to) is ∙ e.to))
    ]

pub firm_is_edge : {es : List Edge} {a b : ℕ} → HasFirmEdge es a b → HasEdge es a b
firm_is_edge e = record { edge = e.edge; listed = e.listed; from = e.from; to = e.to }

-- The invariant of the nodes listed so far.
pub record IsFront (g : Graph) (ranks listed : List ℕ) : Type 0 where
  pub nodes : (a : ℕ) → Contains listed a → a < g.nodes
  -- At most one component is listed in part.
  pub one : (a b c d : ℕ) → Contains listed a → b < g.nodes → ¬ Contains listed b → get_or ranks a 0 ≡ get_or ranks b 0 → Contains listed c → d < g.nodes → ¬ Contains listed d → get_or ranks c 0 ≡ get_or ranks d 0 → get_or ranks a 0 ≡ get_or ranks c 0
  -- Each edge into a component that has begun starts at a listed node.
  pub entered : (a b c : ℕ) → HasEdge g.edges a b → get_or ranks a 0 ≢ get_or ranks b 0 → Contains listed c → get_or ranks c 0 ≡ get_or ranks b 0 → Contains listed a

module _ (g : Graph) (ok : IsDigraph g) (ranks : List ℕ) (r : IsRanking g ranks) (listed : List ℕ) (f : IsFront g ranks listed) where
  pub held_cases : (b : ℕ) → b < g.nodes → IsHeld g.edges listed b ⊎ ¬ IsHeld g.edges listed b
  held_cases b lb =
      elim (search_below (λ a. (a ≢ b) × ((¬ Contains listed a) × ((get_or ranks a 0 ≡ get_or ranks b 0) × HasFirmEdge g.edges a b)))
      (λ a.
      and_cases _ _ (not_cases _ (cases_eq a b))
      (and_cases _ _ (not_cases _ (contains_cases listed a))
      (and_cases _ _ (cases_eq (get_or ranks a 0) (get_or ranks b 0)) (firm_cases g.edges a b))))
      g.nodes) [
        | inl h ↦
            inl (record { by = h.0; other = h.2.0; fresh = h.2.1.0; same = r.same h.0 b h.1 lb h.2.1.1.0; edge = h.2.1.1.1 })
        | inr none ↦
            inr (λ h.
            none h.by (nodes_of_edge g ok (firm_is_edge h.edge)).0 (h.other, (h.fresh, (rank_same g ok ranks r h.same, h.edge))))
      ]

  -- Some listed node has the rank of `w`.
  IsBegun : ℕ → Type 0
  IsBegun w = (a : ℕ) × (a < g.nodes) × (Contains listed a × (get_or ranks a 0 ≡ get_or ranks w 0))

  begun_cases : (w : ℕ) → IsBegun w ⊎ ¬ IsBegun w
  unfolding IsBegun
  begun_cases w =
      elim (search_below (λ a. Contains listed a × (get_or ranks a 0 ≡ get_or ranks w 0))
      (λ a. and_cases _ _ (contains_cases listed a) (cases_eq (get_or ranks a 0) (get_or ranks w 0))) g.nodes) [
        | inl h ↦ inl h
        | inr none ↦ inr (λ h. none h.0 h.1 h.2)
      ]

  -- A component that is free to be next has an available node.
  available_in : (u : ℕ) → u < g.nodes → ¬ Contains listed u
      → ((a b : ℕ) → Contains listed a → b < g.nodes → get_or ranks a 0 ≡ get_or ranks b 0 → get_or ranks a 0 ≢ get_or ranks u 0 → Contains listed b)
      → ((a b : ℕ) → HasEdge g.edges a b → get_or ranks b 0 ≡ get_or ranks u 0 → get_or ranks a 0 ≢ get_or ranks u 0 → Contains listed a)
      → (v : ℕ) × IsAvailable g.edges g.nodes listed v
  available_in u lu fresh whole entered =
      let apart : (a v : ℕ) → a < g.nodes → v < g.nodes → get_or ranks v 0 ≡ get_or ranks u 0 → ¬ SameComponent g.edges a v → get_or ranks a 0 ≢ get_or ranks u 0 =
      λ a v la lv e diff same. diff (r.same a v la lv (same ∙ sym e))
      in
      let made : (v : ℕ) → v < g.nodes → ¬ Contains listed v → get_or ranks v 0 ≡ get_or ranks u 0 → (¬ IsHeld g.edges listed v) ⊎ ((b : ℕ) → SameComponent g.edges b v → ¬ Contains listed b → IsHeld g.edges listed b) → IsAvailable g.edges g.nodes listed v =
      λ v lv fresh_v e ready.
      record {
        node = lv;
        fresh = fresh_v;
        whole = λ a b ha same diff. whole a b ha (path_node g ok ranks r same.there (f.nodes a ha)) (rank_same g ok ranks r same) (apart a v (f.nodes a ha) lv e diff);
        entered = λ a b edge same diff.
            entered a b edge (rank_same g ok ranks r same ∙ e) (apart a v (nodes_of_edge g ok edge).0 lv e diff);
        ready = ready;
      }
      in
      elim (search_nodes (λ v. (get_or ranks v 0 ≡ get_or ranks u 0) × ((¬ Contains listed v) × (¬ IsHeld g.edges listed v))) g.nodes
      (λ v lv.
      and_cases _ _ (cases_eq (get_or ranks v 0) (get_or ranks u 0))
      (and_cases _ _ (not_cases _ (contains_cases listed v)) (not_cases _ (held_cases v lv))))
      g.nodes (omega arith)) [
        | inl h ↦ (h.0, made h.0 h.1 h.2.1.0 h.2.0 (inl h.2.1.1))
        | inr none ↦ (
          u,
          made u lu fresh refl
              (inr (λ b same fresh_b.
              let lb : b < g.nodes = path_node g ok ranks r same.back lu in
              elim (held_cases b lb) [
                | inl h ↦ h
                | inr free ↦ absurd (none b lb (rank_same g ok ranks r same, (fresh_b, free)))
              ])),
        )
      ]

  -- Some unlisted node has the least level of all that are unlisted.
  least_level : (bound u : ℕ) → get_or r.levels u 0 < bound → u < g.nodes → ¬ Contains listed u → (v : ℕ) × (v < g.nodes) × (¬ Contains listed v) × ((w : ℕ) → w < g.nodes → ¬ Contains listed w → get_or r.levels v 0 ≤ get_or r.levels w 0)
  least_level zero u h lu fresh = absurd (omega arith)
  least_level (suc bound) u h lu fresh =
      elim (search_below (λ w. (get_or r.levels w 0 < get_or r.levels u 0) × (¬ Contains listed w))
      (λ w. and_cases _ _ (lt_cases (get_or r.levels w 0) (get_or r.levels u 0)) (not_cases _ (contains_cases listed w))) g.nodes) [
        | inl f ↦ least_level bound f.0 (omega (arith, f.2.0)) f.1 f.2.1
        | inr none ↦ (u, lu, fresh, λ w lw fresh_w. elim (cases_lt (get_or r.levels w 0) (get_or r.levels u 0)) [ inl less ↦ absurd (none w lw (less, fresh_w)) | inr more ↦ more ])
      ]

  -- If some node isn't listed, some node is available.
  pub some_available : (u : ℕ) → u < g.nodes → ¬ Contains listed u → (v : ℕ) × IsAvailable g.edges g.nodes listed v
  unfolding IsBegun
  some_available u lu fresh =
      elim (search_below (λ w. (¬ Contains listed w) × IsBegun w)
      (λ w. and_cases _ _ (not_cases _ (contains_cases listed w)) (begun_cases w)) g.nodes) [
        | inl h ↦
            let begun = h.2.1 in
            available_in h.0 h.1 h.2.0
            (λ a b ha lb e diff.
            elim (contains_cases listed b) [
              | inl y ↦ y
              | inr lacks ↦ absurd (diff (f.one a b begun.0 h.0 ha lb lacks e begun.2.0 h.1 h.2.0 begun.2.1 ∙ begun.2.1))
            ])
            (λ a b edge e diff. f.entered a b begun.0 edge (λ same. diff (same ∙ e)) begun.2.0 (begun.2.1 ∙ sym e))
        | inr none ↦
            let low = least_level (suc (get_or r.levels u 0)) u (omega arith) lu fresh in
            available_in low.0 low.1 low.2
            (λ a b ha lb e diff.
            elim (contains_cases listed b) [
              | inl y ↦ y
              | inr lacks ↦ absurd (none b lb (lacks, (a, f.nodes a ha, (ha, e))))
            ])
            (λ a b edge e diff.
            elim (contains_cases listed a) [
              | inl y ↦ y
              | inr lacks ↦
                  absurd (diff (
                  let ends = nodes_of_edge g ok edge in
                  let least = low.3 a ends.0 lacks in
                  let up = r.are.ascends a b edge in
                  let here = level_path g ok ranks r (r.same b low.0 ends.1 low.1 e).there in
                  r.one a low.0 ends.0 low.1 (omega (arith, least, up, here))))
            ])
      ]

pub front_none : (g : Graph) (ranks : List ℕ) → IsFront g ranks []
front_none g ranks =
    record {
      nodes = λ a c. absurd (omega (arith, c.1));
      one = λ a b c d ha. absurd (omega (arith, ha.1));
      entered = λ a b c e diff hc. absurd (omega (arith, hc.1));
    }

-- Listing an available node keeps the invariant.
pub front_more : (g : Graph) (ok : IsDigraph g) (ranks : List ℕ) (r : IsRanking g ranks) (listed : List ℕ) (f : IsFront g ranks listed) (v : ℕ) → IsAvailable g.edges g.nodes listed v → IsFront g ranks (listed ++ v ∷ [])
front_more g ok ranks r listed f v next =
    let older : (b : ℕ) → ¬ Contains (listed ++ v ∷ []) b → ¬ Contains listed b = λ b lacks c. lacks (Contains-append_left listed (v ∷ []) b c) in
    -- Otherwise another component would be listed in part, and `v` not available.
    let alone : (c d : ℕ) → Contains listed c → d < g.nodes → ¬ Contains listed d → get_or ranks c 0 ≡ get_or ranks d 0 → get_or ranks v 0 ≡ get_or ranks c 0 =
    λ c d hc ld lacks e.
    elim (cases_eq (get_or ranks v 0) (get_or ranks c 0)) [
      | inl y ↦ y
      | inr ne ↦ absurd (lacks (next.whole c d hc (r.same c d (f.nodes c hc) ld e) (λ s. ne (sym (rank_same g ok ranks r s)))))
    ]
    in
    record {
      nodes = λ a c. elim (Contains-push_cases listed v a c) [ inl old ↦ f.nodes a old | inr e ↦ rw (sym e) next.node ];
      one = λ a b c d ha lb nb e hc ld nd e'.
          elim (Contains-push_cases listed v a ha) [
            | inl olda ↦
                elim (Contains-push_cases listed v c hc) [
                  | inl oldc ↦ f.one a b c d olda lb (older b nb) e oldc ld (older d nd) e'
                  | inr isc ↦ rw (sym isc) (sym (alone a b olda lb (older b nb) e))
                ]
            | inr isa ↦
                elim (Contains-push_cases listed v c hc) [
                  | inl oldc ↦ rw (sym isa) (alone c d oldc ld (older d nd) e')
                  | inr isc ↦ rw (sym isa, sym isc) refl
                ]
          ];
      entered = λ a b c edge diff hc e.
          Contains-append_left listed (v ∷ []) a
          (elim (Contains-push_cases listed v c hc) [
            | inl old ↦ f.entered a b c edge diff old e
            | inr is ↦
                let ends = nodes_of_edge g ok edge in
                let e' : get_or ranks v 0 ≡ get_or ranks b 0 = rw (sym is) at e in
                next.entered a b edge (r.same b v ends.1 next.node (sym e')) (λ s. diff (rank_same g ok ranks r s ∙ e'))
          ]);
    }
