-- A digraph has an order with its components.
use Rattle.std.proofs.Common.{◌≡◌, ℕ, zero, suc, ◌+◌, ◌-◌, ◌<◌, ◌≤◌, ⊎_elim, List, [], ◌∷◌, ◌++◌, length, get_or, refl, ap, sym, ◌∙◌, subst, arith}
use Rattle.std.specs.Prelude.{Contains, slice_index, take}
use Rattle.std.proofs.lemmas.Bool.{cases_eq, cases_lt}
use Rattle.std.proofs.lemmas.List.{get_or-take, get_or_default, length-append, length-take}
use Rattle.std.proofs.lemmas.Option.{slice_get-get_or}
use Rattle.digraphs.specs.Graph.{Graph, IsDigraph}
use Rattle.digraphs.specs.Paths.{HasEdge, SameComponent}
use Rattle.digraphs.proofs.FaultLemmas.{nodes_of_edge}
use Rattle.digraph_orders.specs.Laws.{OrderExists}
use Rattle.digraph_orders.specs.Orders.{IsOrder}
use Rattle.digraph_orders.specs.Sequences.{Sequence, IsOrderOf}
use Rattle.digraph_orders.specs.inner.Numbering.{AreNumbered, rank_at}
use Rattle.digraph_orders.specs.inner.Ranks.{IsRanking}
use Rattle.digraph_orders.proofs.ApartLemmas.{apart_whole}
use Rattle.digraph_orders.proofs.OrderLemmas.{order_apart, order_below}
use Rattle.digraph_orders.proofs.PathLemmas.{same_joined, same_self, same_turned}
use Rattle.digraph_orders.proofs.SequenceLemmas.{numbered_more, numbered_none, order_of}
use Rattle.laws.proofs.DoubleNegation.{Chosen, chosen, decided, onward, sure}

-- A least number of which `P` holds.
record IsLeast (P : ℕ → Type 0) (k : ℕ) : Type 0 where
  is : P k
  first : (j : ℕ) → j < k → ¬ P j

least : (P : ℕ → Type 0) (fuel k : ℕ) → P k → k ≤ fuel → ¬ ¬ ((j : ℕ) × IsLeast P j)
least P zero k p below = sure (k, record { is = p; first = λ j l. absurd (omega (arith, l, below)) })
least P (suc fuel) k p below = onward (decided ((j : ℕ) × (j < k) × P j)) (λ d. ⊎_elim
    (λ found. let less = found.1 in least P fuel found.0 found.2 (omega (arith, less, below)))
    (λ none. sure (k, record { is = p; first = λ j l q. none (j, l, q) }))
    d)

at_number : {X : Type 0} {n : ℕ} {R : ℕ → X → Type 0} (c : Chosen n R) (k : ℕ) (d : X) → k < n → R k (get_or c.items k d)
at_number c k d l = let long = c.long in c.each k (get_or c.items k d) (slice_get-get_or c.items k d (omega (arith, l, long)))

module _ (g : Graph) (ok : IsDigraph g) (list : List ℕ) (o : IsOrder g.edges g.nodes list) where
  place_of : (v : ℕ) → v < g.nodes → (k : ℕ) × (k < g.nodes) × (get_or list k 0 ≡ v)
  place_of v h =
      let long = o.long in
      let found = apart_whole list g.nodes (order_apart o) (λ i l. order_below o i (omega (arith, l, long))) o.long v h in
      let within = found.1 in
      (found.0, omega (arith, within, long), found.2)

  -- The place `k` has the first node of the component of `v`.
  abbrev IsFirstOf : ℕ → ℕ → Type 0
  IsFirstOf v k = IsLeast (λ j. SameComponent g.edges (get_or list j 0) v) k

  first_of : (v : ℕ) → v < g.nodes → ¬ ¬ ((k : ℕ) × IsFirstOf v k)
  first_of v h =
      let place = place_of v h in
      least (λ j. SameComponent g.edges (get_or list j 0) v) place.0 place.0 (subst (λ z. SameComponent g.edges z v) (sym place.2) (same_self v)) (omega arith)

  ranks_ascend : (a b j k : ℕ) → HasEdge g.edges a b → IsFirstOf a j → IsFirstOf b k → k < g.nodes → k < j → ⊥
  ranks_ascend a b j k edge one other within less =
      let there : Contains (take k list) a = (o.next k within).available.entered a b edge (same_turned other.is) (λ s. one.first k less (same_turned s)) in
      let place = there.0 in
      let inside = there.1 in
      let cut = length-take k list in
      let few : place < k = omega (arith, inside, cut) in
      let read : get_or list place 0 ≡ a = sym (get_or-take k list place 0 few) ∙ get_or_default (take k list) place 0 a there.1 ∙ there.2 in
      one.first place (omega (arith, few, less)) (subst (λ z. SameComponent g.edges z a) (sym read) (same_self a))

  first_within : (v k : ℕ) → v < g.nodes → IsFirstOf v k → k < g.nodes
  first_within v k h f =
      let place = place_of v h in
      let within = place.1 in
      ⊎_elim
      (λ later. absurd (f.first place.0 later (subst (λ z. SameComponent g.edges z v) (sym place.2) (same_self v))))
      (λ up. omega (arith, up, within))
      (cases_lt place.0 k)

  ascends : (c : Chosen g.nodes IsFirstOf) (a b : ℕ) → HasEdge g.edges a b → slice_index c.items a ≤ slice_index c.items b
  ascends c a b edge =
      let within = nodes_of_edge g ok edge in
      let one : IsFirstOf a (get_or c.items a 0) = at_number c a 0 within.0 in
      let other : IsFirstOf b (get_or c.items b 0) = at_number c b 0 within.1 in
      ⊎_elim
      (λ less. absurd (ranks_ascend a b (get_or c.items a 0) (get_or c.items b 0) edge one other (first_within b (get_or c.items b 0) within.1 other) less))
      (λ up. up)
      (cases_lt (get_or c.items b 0) (get_or c.items a 0))

  same_rank : (c : Chosen g.nodes IsFirstOf) (a b : ℕ) → a < g.nodes → b < g.nodes → slice_index c.items a ≡ slice_index c.items b → SameComponent g.edges a b
  same_rank c a b la lb e =
      let one : IsFirstOf a (get_or c.items a 0) = at_number c a 0 la in
      let other : IsFirstOf b (get_or c.items b 0) = at_number c b 0 lb in
      same_joined (same_turned one.is) (subst (λ z. SameComponent g.edges (get_or list z 0) b) (sym e) other.is)

  ranking : Chosen g.nodes IsFirstOf → (ranks : List ℕ) × IsRanking g ranks
  ranking c = (
    c.items,
    record {
      long = c.long;
      levels = c.items;
      are = record { long = c.long; ascends = ascends c; same = same_rank c };
      one = λ a b la lb e. e;
      same = same_rank c;
    },
  )

  module _ (ranks : List ℕ) (r : IsRanking g ranks) where
    one_more : (numbers : List ℕ) (count : ℕ) → AreNumbered list ranks numbers count → (next : ℕ) × AreNumbered list ranks (numbers ++ (next - 1) ∷ []) next
    one_more numbers count a =
        ⊎_elim
        (λ z. (count + 1, numbered_more list ranks numbers count (count + 1) a (λ e. refl) (λ i e s. absurd (omega (arith, e, z))) (λ i e ne. refl)))
        (λ some. ⊎_elim
        (λ same. (count, numbered_more list ranks numbers count count a (λ z. absurd (some z)) (λ i e s. refl) (λ i e ne. absurd (let is : i ≡ length numbers - 1 = omega (arith, e) in ne (ap (rank_at list ranks) is ∙ same)))))
        (λ other. (count + 1, numbered_more list ranks numbers count (count + 1) a (λ z. refl) (λ i e s. absurd (let is : length numbers - 1 ≡ i = omega (arith, e) in other (ap (rank_at list ranks) is ∙ s))) (λ i e ne. refl)))
        (cases_eq (rank_at list ranks (length numbers - 1)) (rank_at list ranks (length numbers))))
        (cases_eq (length numbers) 0)

    numbering : (n : ℕ) → (numbers : List ℕ) × (count : ℕ) × (length numbers ≡ n) × AreNumbered list ranks numbers count
    numbering zero = ([], 0, refl, numbered_none list ranks)
    numbering (suc n) =
        let before = numbering n in
        let next = one_more before.0 before.1 before.3 in
        let long = before.2 in
        let more = length-append before.0 ((next.0 - 1) ∷ []) in
        (before.0 ++ (next.0 - 1) ∷ [], next.0, omega (arith, long, more), next.1)

    -- The number of each node is that of its place.
    abbrev IsNumberOf : List ℕ → ℕ → ℕ → Type 0
    IsNumberOf numbers v x = (i : ℕ) → i < g.nodes → get_or list i 0 ≡ v → x ≡ get_or numbers i 0

    one_place : (i j : ℕ) → i < g.nodes → j < g.nodes → get_or list i 0 ≡ get_or list j 0 → i ≡ j
    one_place i j li lj e =
        let long = o.long in
        ⊎_elim
        (λ less. absurd (order_apart o i j less (omega (arith, lj, long)) e))
        (λ up. ⊎_elim
        (λ more. absurd (order_apart o j i more (omega (arith, li, long)) (sym e)))
        (λ down. omega (arith, up, down))
        (cases_lt j i))
        (cases_lt i j)

    component_of_node : (numbers : List ℕ) (v : ℕ) → v < g.nodes → (x : ℕ) × IsNumberOf numbers v x
    component_of_node numbers v h =
        let place = place_of v h in
        (get_or numbers place.0 0, λ i l e. ap (λ z. get_or numbers z 0) (one_place place.0 i place.1 l (place.2 ∙ sym e)))

    with_components : Chosen g.nodes (IsNumberOf (numbering g.nodes).0) → (s : Sequence) × IsOrderOf g s
    with_components c =
        let n = numbering g.nodes in (
          record { list = list; component = c.items; count = n.1 },
          order_of g ok ranks r list o n.0 n.1 n.3 n.2 c.items c.long (λ i h. at_number c (get_or list i 0) 0 (order_below o i h) i h refl),
        )

    sequence : ¬ ¬ ((s : Sequence) × IsOrderOf g s)
    sequence = onward (chosen g.nodes (IsNumberOf (numbering g.nodes).0) (λ v h. sure (component_of_node (numbering g.nodes).0 v h))) (λ c. sure (with_components c))

-- each digraph has an order with its components
pub sequence_exists : OrderExists → (g : Graph) → IsDigraph g → ¬ ¬ ((s : Sequence) × IsOrderOf g s)
sequence_exists order g ok =
    let list = order g ok in
    onward (chosen g.nodes (IsFirstOf g ok list.0 list.1) (first_of g ok list.0 list.1)) (λ c.
    let r = ranking g ok list.0 list.1 c in
    sequence g ok list.0 list.1 r.0 r.1)
