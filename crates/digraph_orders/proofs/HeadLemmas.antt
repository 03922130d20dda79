-- The head of a component that is free to go on is next.
use Rattle.std.proofs.Common.{◌≡◌, ℕ, ◌<◌, ◌≤◌, ◌⊎◌, inl, inr, Bool, true, false, List, get_or, sym, ◌∙◌, arith, Contains}
use Rattle.std.proofs.lemmas.Bool.{cases_eq, cases_lt, cases_Bool}
use Rattle.digraphs.specs.Graph.{Graph, IsDigraph}
use Rattle.digraph_orders.specs.Orders.{IsAvailable, IsNext}
use Rattle.digraphs.proofs.FaultLemmas.{nodes_of_edge}
use Rattle.digraph_orders.specs.inner.Ranks.{IsRanking}
use Rattle.digraph_orders.specs.inner.Heads.{IsDone, AreMarks, AreHolds, IsHead, IsWholeBut, IsEntered}
use Rattle.digraph_orders.proofs.Available.{rank_same, path_node}

pub done_cases : (done : List Bool) (v : ℕ) → IsDone done v ⊎ ¬ IsDone done v
done_cases done v = elim (cases_Bool (get_or done v false)) [ inl t ↦ inl t | inr f ↦ inr (λ t. let c : true ≡ false = sym t ∙ f in cc) ]

module _ (g : Graph) (ok : IsDigraph g) (ranks : List ℕ) (r : IsRanking g ranks) (listed held : List ℕ) (done : List Bool) (m : AreMarks listed done) (h : AreHolds g listed held) where
  fresh_of : (v : ℕ) → ¬ IsDone done v → ¬ Contains listed v
  fresh_of v f c = f (m.marked v c)

  fresh_by : (v : ℕ) → ¬ Contains listed v → ¬ IsDone done v
  fresh_by v f c = f (m.listed_one v c)

  -- A head is available if its component is free to go on.
  pub head_available : ((a : ℕ) → Contains listed a → a < g.nodes) → (v : ℕ) → IsHead g.nodes ranks held done v → IsWholeBut g ranks done (get_or ranks v 0) → IsEntered g ranks done (get_or ranks v 0) → IsAvailable g.edges g.nodes listed v
  head_available nodes v head whole entered =
      record {
        node = head.node;
        fresh = fresh_of v head.fresh;
        whole = λ a b ca same apart.
            elim (done_cases done b) [
              | inl d ↦ m.listed_one b d
              | inr fb ↦
                  absurd (apart (r.same a v (nodes a ca) head.node
                  (whole a b (m.marked a ca) (path_node g ok ranks r same.there (nodes a ca)) fb (rank_same g ok ranks r same))))
            ];
        entered = λ a b edge same apart.
            let ends = nodes_of_edge g ok edge in
            m.listed_one a (entered a b edge (rank_same g ok ranks r same) (λ e. apart (r.same a v ends.0 head.node e)));
        ready = elim head.first [
          | inl free ↦ inl (λ held_v. h.some v head.node held_v free.0)
          | inr stuck ↦ inr (λ b same fb.
              let lb = path_node g ok ranks r same.back head.node in
              h.holds b lb (stuck.0 b lb (fresh_by b fb) (rank_same g ok ranks r same)))
        ];
      }

  -- An available node isn't less than the head of its component.
  pub head_least : (v u : ℕ) → IsHead g.nodes ranks held done v → IsAvailable g.edges g.nodes listed u → get_or ranks u 0 ≡ get_or ranks v 0 → v ≤ u
  head_least v u head av same =
      elim (cases_lt u v) [
        | inr le ↦ le
        | inl less ↦
            elim head.first [
              | inr stuck ↦ absurd (stuck.1 u less (fresh_by u av.fresh) same)
              | inl free ↦
                  let hu = h.holds u av.node (free.1 u less (fresh_by u av.fresh) same) in
                  elim av.ready [
                    | inl not_held ↦ absurd (not_held hu)
                    | inr all ↦ absurd (h.some v head.node (all v (r.same v u head.node av.node (sym same)) (fresh_of v head.fresh)) free.0)
                  ]
            ]
      ]

  -- Inside a component that has begun, its head is next.
  pub next_within : ((a : ℕ) → Contains listed a → a < g.nodes) → (v a : ℕ) → IsHead g.nodes ranks held done v → IsWholeBut g ranks done (get_or ranks v 0) → IsEntered g ranks done (get_or ranks v 0)
      → IsDone done a → get_or ranks a 0 ≡ get_or ranks v 0 → IsNext g.edges g.nodes listed v
  next_within nodes v a head whole entered da same =
      record {
        available = head_available nodes v head whole entered;
        least = λ u less av.
            let ca = m.listed_one a da in
            let la = nodes a ca in
            elim (cases_eq (get_or ranks u 0) (get_or ranks v 0)) [
              | inl e ↦ omega (arith, head_least v u head av e)
              | inr ne ↦
                  head.fresh (m.marked v (av.whole a v ca (r.same a v la head.node same)
                  (λ s. ne (sym (rank_same g ok ranks r s) ∙ same))))
            ];
      }

  -- If no component is done in part, the least head of the entered ones is next.
  pub next_start : ((a : ℕ) → Contains listed a → a < g.nodes) → (v : ℕ) → IsHead g.nodes ranks held done v → ((c : ℕ) → IsWholeBut g ranks done c) → IsEntered g ranks done (get_or ranks v 0)
      → ((u : ℕ) → u < g.nodes → ¬ IsDone done u → IsEntered g ranks done (get_or ranks u 0) → (x : ℕ) × (v ≤ x) × (IsHead g.nodes ranks held done x × (get_or ranks u 0 ≡ get_or ranks x 0)))
      → IsNext g.edges g.nodes listed v
  next_start nodes v head whole entered others =
      record {
        available = head_available nodes v head (whole (get_or ranks v 0)) entered;
        least = λ u less av.
            let x = others u av.node (fresh_by u av.fresh)
            (λ a b edge eb na.
            let ends = nodes_of_edge g ok edge in
            m.marked a (av.entered a b edge (r.same b u ends.1 av.node eb) (λ s. na (rank_same g ok ranks r s)))) in
            let le = head_least x.0 u x.2.0 av x.2.1 in
            omega (arith, le, x.1);
      }
