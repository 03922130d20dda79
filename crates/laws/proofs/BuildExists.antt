-- The tables of a package graph have a build.
use Rattle.std.proofs.Common.{◌≡◌, ℕ, zero, suc, ◌+◌, ◌<◌, ◌≤◌, ◌⊎◌, inl, inr, ⊎_elim, List, [], ◌∷◌, length, map, Option, Some, None, get_or, refl, ap, sym, ◌∙◌, subst, arith}
use Rattle.std.specs.Prelude.{AllPairs, Contains, filter, filter_map, not, ◌==◌, slice_get}
use Rattle.std.specs.List.{cons_option}
use Rattle.std.proofs.Math.Logic.{∥∥₁_elim}
use Rattle.std.proofs.Props.{props}
use Rattle.std.proofs.lemmas.Bool.{cases_eq, cases_lt}
use Rattle.std.proofs.lemmas.List.{get_or-map, length-map}
use Rattle.std.proofs.lemmas.List.Elements.{Contains-get_or}
use Rattle.std.proofs.lemmas.List.Kept.{AllPairs-cons}
use Rattle.guppy_packages.specs.Tables.{AreTables, LinkTable, Tables}
use Rattle.feature_labels.specs.Names.LabelName.{optional}
use Rattle.feature_links.specs.Facts.{EdgeFacts}
use Rattle.feature_core.specs.Nodes.{NodeAt, first_nodes, node_packages}
use Rattle.feature_core.specs.Candidates.{Edge, feature_to_base, named_feature, dep_colon, slash_full, slash_optional, slash_weak, section, Candidate, to_base, to_feature, to_dependency, over_strong, over_weak, with_dependency, with_feature, of_required, of_optional, rank_of, IsEdge, unsplit_of}
use Rattle.feature_core.specs.Edges.{AreBuilt, EdgeBefore, EdgeSays, IsGate, ends_of, facts_of, first_ones, weak_link}
use Rattle.feature_core.specs.Pairs.{HasCandidate, IsBefore, IsPairList}
use Rattle.feature_core.specs.Built.{Built, IsBuilt}
use Rattle.feature_core.specs.BuiltOnce.{edge_there-prop, pair_there-prop}
use Rattle.feature_core.specs.Defaults.{IsDefault}
use Rattle.feature_core.specs.Warnings.{warnings}
use Rattle.feature_core.proofs.AddsLemmas.{Contains-cases, Contains-first, Contains-later, Contains-none, place_below}
use Rattle.feature_core.proofs.BuildLemmas.{alone}
use Rattle.feature_core.proofs.GraphContent.{at_node, candidate_within}
use Rattle.feature_core.proofs.PushLemmas.{from_filter, from_map, into_map}
use Rattle.feature_core.proofs.Ranks.{one_edge}
use Rattle.feature_core.proofs.WeakLemmas.{optional_node}
use Rattle.laws.proofs.DoubleNegation.{Marks, decided, marked, onward, sure}

-- A pair of nodes with its edge.
abbrev Picked : Type 0
Picked = ℕ × ℕ × Edge

abbrev Earlier : Picked → Picked → Type 0
Earlier a b = (a.0 < b.0) ⊎ ((a.0 ≡ b.0) × (a.1 < b.1))

-- `(a, b)` is `(u, w)` or after it.
abbrev IsFrom : ℕ → ℕ → ℕ → ℕ → Type 0
IsFrom u w a b = (u < a) ⊎ ((u ≡ a) × (w ≤ b))

le_else : (a b : ℕ) → ¬ (b < a) → a ≤ b
le_else a b h = ⊎_elim (λ l. absurd (h l)) (λ l. l) (cases_lt b a)

next_from : (u w a b : ℕ) → IsFrom u (suc w) a b → IsFrom u w a b
next_from u w a b h = ⊎_elim (λ l. inl l) (λ l. let below = l.1 in inr (l.0, omega (arith, below))) h

from_cases : (u w a b : ℕ) → IsFrom u w a b → ((u ≡ a) × (w ≡ b)) ⊎ IsFrom u (suc w) a b
from_cases u w a b h =
    ⊎_elim
    (λ l. inr (inl l))
    (λ l. let below = l.1 in ⊎_elim (λ e. inl (l.0, e)) (λ ne. inr (inr (l.0, omega (arith, below, ne)))) (cases_eq w b))
    h

row_from : (u n a b : ℕ) → IsFrom (suc u) 0 a b → IsFrom u n a b
row_from u n a b h = ⊎_elim (λ l. inl (omega (arith, l))) (λ l. let e = l.0 in inl (omega (arith, e))) h

from_row : (u a b : ℕ) → u < a → IsFrom (suc u) 0 a b
from_row u a b l = ⊎_elim (λ e. inr (e, omega arith)) (λ ne. inl (omega (arith, l, ne))) (cases_eq (suc u) a)

-- a value of each element keeps the order of a list
mapped : {X Y : Type 0} (g : X → Y) (R : X → X → Type 0) (S : Y → Y → Type 0) (none : X) → ((a b : X) → R a b → S (g a) (g b)) → (xs : List X) → AllPairs R xs → AllPairs S (map g xs)
mapped {X} {Y} g R S none more xs h i j d lt within =
    let long : length (map g xs) ≡ length xs = length-map xs g in
    let last : j < length xs = omega (arith, within, long) in
    let first : i < length xs = omega (arith, last, lt) in
    let related : S (g (get_or xs i none)) (g (get_or xs j none)) = more (get_or xs i none) (get_or xs j none) (h i j none lt last) in
    subst (λ z. S (get_or (map g xs) i d) z) (sym (get_or-map g xs j none d last)) (subst (λ z. S z (g (get_or xs j none))) (sym (get_or-map g xs i none d first)) related)

module _ (t : Tables) (tables : AreTables t) where
  abbrev count : ℕ
  count = length (node_packages t)

  -- a pair with a candidate has an edge
  some_edge : (fuel u w : ℕ) (e : Edge) → Candidate t u w e → rank_of e ≤ fuel → ¬ ¬ ((x : Edge) × IsEdge t u w x)
  some_edge zero u w e c below = sure (e, record { candidate = c; least = λ other o. omega (arith, below) })
  some_edge (suc fuel) u w e c below = onward (decided ((other : Edge) × Candidate t u w other × (rank_of other < rank_of e))) (λ d. ⊎_elim
      (λ o. let less = o.2 in some_edge fuel u w o.0 o.1 (omega (arith, below, less)))
      (λ none. sure (e, record { candidate = c; least = λ other o. le_else (rank_of e) (rank_of other) (λ less. none (other, o, less)) }))
      d)

  -- The edges of the pairs from `(u, w)` on, ascending.
  record AreFrom (u w : ℕ) (picked : List Picked) : Type 0 where
    after : (x : Picked) → Contains picked x → IsFrom u w x.0 x.1
    ascends : AllPairs Earlier picked
    sound : (x : Picked) → Contains picked x → IsEdge t x.0 x.1 x.2
    whole : (a b : ℕ) (e : Edge) → IsFrom u w a b → Candidate t a b e → (x : Edge) × Contains picked (a, b, x)

  abbrev Row : ℕ → ℕ → Type 0
  Row u w = (picked : List Picked) × AreFrom u w picked

  -- the pair has an edge
  picked_next : (u w : ℕ) (e : Edge) → IsEdge t u w e → Row u (suc w) → Row u w
  picked_next u w e is (rest, r) = (
    (u, w, e) ∷ rest,
    record {
      after = λ x c. ⊎_elim (λ same. subst (λ (z : Picked). IsFrom u w z.0 z.1) same (inr (refl, omega arith))) (λ i. next_from u w x.0 x.1 (r.after x i)) (Contains-cases (u, w, e) rest x c);
      ascends = AllPairs-cons Earlier (u, w, e) rest (λ k d l. before (get_or rest k d) (Contains-get_or rest k d l)) r.ascends;
      sound = λ x c. ⊎_elim (λ same. subst (λ (z : Picked). IsEdge t z.0 z.1 z.2) same is) (λ i. r.sound x i) (Contains-cases (u, w, e) rest x c);
      whole = λ a b x from candidate.
          ⊎_elim
          (λ same. (e, subst (λ z. Contains ((u, w, e) ∷ rest) (z, b, e)) same.0 (subst (λ z. Contains ((u, w, e) ∷ rest) (u, z, e)) same.1 (Contains-first (u, w, e) rest))))
          (λ later. let found = r.whole a b x later candidate in (found.0, Contains-later (u, w, e) rest (a, b, found.0) found.1))
          (from_cases u w a b from);
    },
  )
    where
      before : (x : Picked) → Contains rest x → Earlier (u, w, e) x
      before x c = ⊎_elim (λ l. inl l) (λ l. let below = l.1 in inr (l.0, omega (arith, below))) (r.after x c)

  -- the pair has no candidate
  picked_none : (u w : ℕ) → ¬ ((e : Edge) × Candidate t u w e) → Row u (suc w) → Row u w
  picked_none u w none (rest, r) = (
    rest,
    record {
      after = λ x c. next_from u w x.0 x.1 (r.after x c);
      ascends = r.ascends;
      sound = r.sound;
      whole = λ a b x from candidate.
          ⊎_elim
          (λ same. absurd (none (x, subst (λ z. Candidate t z w x) (sym same.0) (subst (λ z. Candidate t a z x) (sym same.1) candidate))))
          (λ later. r.whole a b x later candidate)
          (from_cases u w a b from);
    },
  )

  one_more : (u w : ℕ) → Row u (suc w) → ¬ ¬ Row u w
  one_more u w row = onward (decided ((e : Edge) × Candidate t u w e)) step
    where
      step : ((e : Edge) × Candidate t u w e) ⊎ ¬ ((e : Edge) × Candidate t u w e) → ¬ ¬ Row u w
      step (inl c) = onward (some_edge (rank_of c.0) u w c.0 c.1 (omega arith)) (λ e. sure (picked_next u w e.0 e.1 row))
      step (inr none) = sure (picked_none u w none row)

  -- no pair has a candidate whose second number isn't a node
  row_end : (u : ℕ) → Row (suc u) 0 → Row u count
  row_end u (rest, r) = (
    rest,
    record {
      after = λ x c. row_from u count x.0 x.1 (r.after x c);
      ascends = r.ascends;
      sound = r.sound;
      whole = λ a b x from candidate.
          ⊎_elim
          (λ l. r.whole a b x (from_row u a b l) candidate)
          (λ l. let past = l.1 in let within = (candidate_within t a b x candidate).1 in absurd (omega (arith, past, within)))
          from;
    },
  )

  columns : (m u w : ℕ) → m + w ≡ count → Row u count → ¬ ¬ Row u w
  columns zero u w is row = let e : count ≡ w = omega (arith, is) in sure (subst (Row u) e row)
  columns (suc m) u w is row = onward (columns m u (suc w) (omega (arith, is)) row) (one_more u w)

  rows : (m u : ℕ) → m + u ≡ count → ¬ ¬ Row u 0
  rows zero u is = sure (
    [],
    record {
      after = λ x c. absurd (Contains-none x c);
      ascends = λ i j d lt within. absurd (omega (arith, within));
      sound = λ x c. absurd (Contains-none x c);
      whole = λ a b x from candidate.
          let within = (candidate_within t a b x candidate).0 in
          absurd (⊎_elim (λ l. omega (arith, l, within, is)) (λ l. let e = l.0 in omega (arith, e, within, is)) from);
    },
  )
  rows (suc m) u is = onward (rows m (suc u) (omega (arith, is))) (λ row. columns count u 0 (omega arith) (row_end u row))

  -- the built edge of a picked one, if `numbers` are the weak links
  abbrev built_of : List ℕ → Picked → ℕ × ℕ × EdgeFacts
  built_of numbers x = (x.0, x.1, facts_of t numbers x.2)

  weak_alike : (v w : List ℕ) (e : Edge) → weak_link (facts_of t v e) ≡ weak_link (facts_of t w e)
  weak_alike v w feature_to_base = refl
  weak_alike v w named_feature = refl
  weak_alike v w (dep_colon l) = refl
  weak_alike v w (slash_full l) = refl
  weak_alike v w (slash_optional l) = refl
  weak_alike v w (slash_weak k l) = refl
  weak_alike v w (section l) = refl

  abbrev numbers_in : List ℕ → List Picked → List ℕ
  numbers_in v picked = filter_map (λ e. weak_link e.2) (map (built_of v) picked)

  numbers_alike : (v w : List ℕ) (picked : List Picked) → numbers_in v picked ≡ numbers_in w picked
  numbers_alike v w [] = refl
  numbers_alike v w (x ∷ picked) =
      ap (λ o. cons_option o (numbers_in v picked)) (weak_alike v w x.2)
      ∙ ap (cons_option (weak_link (facts_of t w x.2))) (numbers_alike v w picked)

  -- the edge of a number among the weak links
  number_of : (v : List ℕ) (picked : List Picked) (k : ℕ) → Contains (numbers_in v picked) k → (x : Picked) × Contains picked x × (weak_link (facts_of t v x.2) ≡ Some k)
  number_of v [] k c = absurd (Contains-none k c)
  number_of v (x ∷ picked) k c = go (λ i. let found = number_of v picked k i in (found.0, Contains-later x picked found.0 found.1, found.2)) (weak_link (facts_of t v x.2)) refl c
    where
      go : (Contains (numbers_in v picked) k → (y : Picked) × Contains (x ∷ picked) y × (weak_link (facts_of t v y.2) ≡ Some k))
          → (o : Option ℕ) → weak_link (facts_of t v x.2) ≡ o → Contains (cons_option o (numbers_in v picked)) k → (y : Picked) × Contains (x ∷ picked) y × (weak_link (facts_of t v y.2) ≡ Some k)
      go later None e i = later i
      go later (Some j) e i = ⊎_elim (λ same. (x, Contains-first x picked, e ∙ ap Some same)) later (Contains-cases j (numbers_in v picked) k i)

  once_in : (xs : List ℕ) (k : ℕ) → Contains (first_ones xs) k → Contains xs k
  once_in [] k c = absurd (Contains-none k c)
  once_in (x ∷ xs) k c =
      ⊎_elim
      (λ e. subst (Contains (x ∷ xs)) e (Contains-first x xs))
      (λ i. Contains-later x xs k (once_in xs k (from_filter (λ y. not (x == y)) (first_ones xs) k i).0))
      (Contains-cases x (filter (λ y. not (x == y)) (first_ones xs)) k c)

  abbrev Gate : ℕ → Type 0
  Gate k = (gate : ℕ) × IsGate t k gate

  not_weak : (v : List ℕ) (e other : Edge) (k : ℕ) → e ≡ other → weak_link (facts_of t v other) ≡ None → weak_link (facts_of t v e) ≡ Some k → ⊥
  not_weak v e other k is none some = let clash : ◌≡◌ {A = Option ℕ} None (Some k) = sym none ∙ ap (λ z. weak_link (facts_of t v z)) (sym is) ∙ some in absurd (cc)

  -- a weak link has a gate
  gate_of : (v : List ℕ) (u w : ℕ) (e : Edge) (k : ℕ) → Candidate t u w e → weak_link (facts_of t v e) ≡ Some k → Gate k
  gate_of v u w e k (to_base p l from differ to is) h = absurd (not_weak v e feature_to_base k is refl h)
  gate_of v u w e k (to_feature p f g item differ from to is) h = absurd (not_weak v e named_feature k is refl h)
  gate_of v u w e k (to_dependency p f d item from to is) h = absurd (not_weak v e (dep_colon _) k is refl h)
  gate_of v u w e k (over_strong j link weak leads strong is) h = absurd (not_weak v e (slash_full _) k is refl h)
  gate_of v u w e k (over_weak j link leads has is) h =
      let its : weak_link (facts_of t v e) ≡ slice_get (unsplit_of j link).package_links 0 = ap (λ z. weak_link (facts_of t v z)) is in
      let first : slice_get (unsplit_of j link).package_links 0 ≡ Some j = ap (λ (z : List ℕ). slice_get z 0) (alone j link (tables.declarations j link leads.is_link)) in
      let both : Some j ≡ Some k = sym first ∙ sym its ∙ h in
      let same : j ≡ k = cc in
      let node = optional_node t tables j link leads.is_link has in
      subst Gate same (
        node.0,
        record {
          within = place_below t.links j link leads.is_link;
          node = λ other there.
              let twice : Some link ≡ Some other = sym leads.is_link ∙ there in
              let one : link ≡ other = cc in
              subst (λ (z : LinkTable). NodeAt t node.0 z.from (optional z.name)) one node.1;
        },
      )
  gate_of v u w e k (with_dependency p f d g item from to is) h = absurd (not_weak v e (slash_optional _) k is refl h)
  gate_of v u w e k (with_feature p n f d g item from beside differ to is) h = absurd (not_weak v e (slash_optional _) k is refl h)
  gate_of v u w e k (of_required s) h = absurd (not_weak v e (section _) k s.is_edge refl h)
  gate_of v u w e k (of_optional s) h = absurd (not_weak v e (section _) k s.is_edge refl h)

  -- Weak links, each with its gate.
  record AreGated (numbers : List ℕ) : Type 0 where
    weak : List (ℕ × ℕ)
    links : map (λ x. x.0) weak ≡ numbers
    gates : (i k gate : ℕ) → slice_get weak i ≡ Some (k, gate) → IsGate t k gate

  more_gated : (n : ℕ) (numbers : List ℕ) → Gate n → AreGated numbers → AreGated (n ∷ numbers)
  more_gated n numbers first rest = record { weak = (n, first.0) ∷ rest.weak; links = ap (λ z. n ∷ z) rest.links; gates = at }
    where
      at : (i k gate : ℕ) → slice_get ((n, first.0) ∷ rest.weak) i ≡ Some (k, gate) → IsGate t k gate
      at zero k gate e =
          let both : ◌≡◌ {A = ℕ × ℕ} (n, first.0) (k, gate) = cc in
          subst (λ (z : ℕ × ℕ). IsGate t z.0 z.1) both first.1
      at (suc i) k gate e = rest.gates i k gate e

  gated : (numbers : List ℕ) → ((k : ℕ) → Contains numbers k → Gate k) → AreGated numbers
  gated [] each = record { weak = []; links = refl; gates = λ i k gate e. absurd (cc) }
  gated (n ∷ numbers) each = more_gated n numbers (each n (Contains-first n numbers)) (gated numbers (λ k c. each k (Contains-later n numbers k c)))

  -- the edges and weak links of the picked ones
  module _ (picked : List Picked) (from : AreFrom 0 0 picked) where
    whole_list : (a b : ℕ) → IsFrom 0 0 a b
    whole_list a b = ⊎_elim (λ e. inr (e, omega arith)) (λ ne. inl (omega (arith, ne))) (cases_eq 0 a)

    abbrev numbers : List ℕ
    numbers = first_ones (numbers_in [] picked)

    gates : AreGated numbers
    gates = gated numbers (λ k c. let found = number_of [] picked k (once_in (numbers_in [] picked) k c) in gate_of [] found.0.0 found.0.1 found.0.2 k (from.sound found.0 found.1).candidate found.2)

    abbrev edges : List (ℕ × ℕ × EdgeFacts)
    edges = map (built_of numbers) picked

    edges_ascend : AllPairs EdgeBefore edges
    edges_ascend = mapped (built_of numbers) Earlier EdgeBefore (0, 0, feature_to_base) (λ a b r. r) picked from.ascends

    pairs_ascend : AllPairs IsBefore (ends_of edges)
    pairs_ascend = mapped (λ (e : ℕ × ℕ × EdgeFacts). (e.0, e.1)) EdgeBefore IsBefore (built_of [] (0, 0, feature_to_base)) (λ a b r. r) edges edges_ascend

    listed_says : (u w : ℕ) (f : EdgeFacts) → Contains edges (u, w, f) → EdgeSays t numbers u w f
    listed_says u w f c =
        let found = from_map (built_of numbers) picked (u, w, f) c in
        let start : found.0.0 ≡ u = ap (λ z. z.0) found.2 in
        let end : found.0.1 ≡ w = ap (λ z. z.1) found.2 in
        let facts : facts_of t numbers found.0.2 ≡ f = ap (λ z. z.2) found.2 in
        let is : IsEdge t u w found.0.2 = subst (λ z. IsEdge t z w found.0.2) start (subst (λ z. IsEdge t found.0.0 z found.0.2) end (from.sound found.0 found.1)) in
        ∣ (found.0.2, is, sym facts) ∣₁

    says_listed : (u w : ℕ) (f : EdgeFacts) → EdgeSays t numbers u w f → Contains edges (u, w, f)
    says_listed u w f says =
        let there : IsProp (Contains edges (u, w, f)) = edge_there-prop edges edges_ascend u w f in
        ∥∥₁_elim says there (λ s.
        let found = from.whole u w s.0 (whole_list u w) s.1.candidate in
        let same : found.0 ≡ s.0 = one_edge t tables u w found.0 s.0 (from.sound (u, w, found.0) found.1) s.1 in
        let facts : facts_of t numbers found.0 ≡ f = ap (facts_of t numbers) same ∙ sym s.2 in
        subst (λ z. Contains edges (u, w, z)) facts (into_map (built_of numbers) picked (u, w, found.0) found.1))

    pair_listed : (u w : ℕ) → HasCandidate t u w → Contains (ends_of edges) (u, w)
    pair_listed u w has =
        let there : IsProp (Contains (ends_of edges) (u, w)) = pair_there-prop (ends_of edges) pairs_ascend u w in
        ∥∥₁_elim has there (λ c.
        let found = from.whole u w c.0 (whole_list u w) c.1 in
        into_map (λ (e : ℕ × ℕ × EdgeFacts). (e.0, e.1)) edges (u, w, facts_of t numbers found.0) (into_map (built_of numbers) picked (u, w, found.0) found.1))

    listed_pair : (u w : ℕ) → Contains (ends_of edges) (u, w) → HasCandidate t u w
    listed_pair u w c =
        let edge = from_map (λ (e : ℕ × ℕ × EdgeFacts). (e.0, e.1)) edges (u, w) c in
        let found = from_map (built_of numbers) picked edge.0 edge.1 in
        let start : found.0.0 ≡ u = ap (λ z. z.0) found.2 ∙ ap (λ z. z.0) edge.2 in
        let end : found.0.1 ≡ w = ap (λ z. z.1) found.2 ∙ ap (λ z. z.1) edge.2 in
        ∣ (found.0.2, subst (λ z. Candidate t z w found.0.2) start (subst (λ z. Candidate t found.0.0 z found.0.2) end (from.sound found.0 found.1).candidate)) ∣₁

    are_built : AreBuilt t edges gates.weak
    are_built = record {
      ascends = edges_ascend;
      exact = λ u w f. (
        λ c. subst (λ z. EdgeSays t z u w f) (sym gates.links) (listed_says u w f c),
        λ s. says_listed u w f (subst (λ z. EdgeSays t z u w f) gates.links s),
      );
      links = gates.links ∙ ap first_ones (numbers_alike [] numbers picked);
      gates = gates.gates;
    }

    pair_list : IsPairList t (ends_of edges)
    pair_list = record { ascends = pairs_ascend; exact = λ u w. (listed_pair u w, pair_listed u w) }

  default_below : (n : ℕ) → IsDefault t n → n < count
  default_below n h = let below : IsProp (n < count) = hlevel props in ∥∥₁_elim h below (λ d. at_node t n d.0 d.1.label d.1.node)

  pub built_exists : ¬ ¬ ((b : Built) × IsBuilt t b)
  built_exists = onward (rows count 0 (omega arith)) (λ row. onward (marked count (IsDefault t) default_below) (λ marks. sure (made row.0 row.1 marks)))
    where
      made : (picked : List Picked) → AreFrom 0 0 picked → Marks count (IsDefault t) → (b : Built) × IsBuilt t b
      made picked from marks = (
        record {
          stamp = 0;
          firsts = first_nodes t;
          packages = node_packages t;
          edges = edges picked from;
          weak = (gates picked from).weak;
          warnings = warnings t;
          defaults = marks.marks;
        },
        record {
          firsts = refl;
          packages = refl;
          pairs = pair_list picked from;
          edges = are_built picked from;
          warnings = refl;
          defaults = record { long = marks.long; exact = marks.exact };
        },
      )
