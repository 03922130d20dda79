-- A proof that pairs, or edges, are those of tables is unique.
use Rattle.std.specs.Prelude.{◌≡◌, ℕ, ◌<◌, ◌⊎◌, List, ◌↔◌, Some, Contains, AllPairs, length, map, slice_get, slice_index_or}
use Rattle.std.proofs.Common.{inl, inr, ⊎_elim, ap, subst, arith}
use Rattle.std.proofs.Props.{props}
use Rattle.guppy_packages.specs.Tables.{Tables}
use Rattle.feature_links.specs.Facts.{EdgeFacts}
use Rattle.feature_edges.specs.Edges.{EdgeBefore, EdgeSays, IsGate, AreBuilt, weak_links}
use Rattle.feature_edges.specs.Pairs.{IsBefore, HasCandidate, IsPairList}

earlier-prop : (a b c d : ℕ) → IsProp ((a < c) ⊎ ((a ≡ c) × (b < d)))
earlier-prop a b c d (inl h) (inl k) = let both : IsProp (a < c) = hlevel props in ap inl (both h k)
earlier-prop a b c d (inl h) (inr k) = absurd (omega (arith, h, k.0))
earlier-prop a b c d (inr h) (inl k) = absurd (omega (arith, h.0, k))
earlier-prop a b c d (inr h) (inr k) = let both : IsProp ((a ≡ c) × (b < d)) = hlevel props in ap inr (both h k)

order_of : (a b : ℕ) → (a < b) ⊎ ((b < a) ⊎ (a ≡ b))
order_of a b = grind arith

-- If no element precedes itself, each has one place in an ascending list.
module _ {X : Type 0} (R : X → X → Type 0) (never : (x : X) → R x x → ⊥) (is_set : IsSet X) (xs : List X) (ascends : AllPairs R xs) (x : X) where
  one_place : (j k : ℕ) → j < length xs → k < length xs → slice_index_or xs j x ≡ x → slice_index_or xs k x ≡ x → j ≡ k
  one_place j k l m e f =
      ⊎_elim
      (λ i. absurd (never x (subst (λ z. R z x) e (subst (λ z. R (slice_index_or xs j x) z) f (ascends j k x i m)))))
      (λ o. ⊎_elim
      (λ i. absurd (never x (subst (λ z. R z x) f (subst (λ z. R (slice_index_or xs k x) z) e (ascends k j x i l)))))
      (λ i. i)
      o)
      (order_of j k)

  at_place-prop : (k : ℕ) → IsProp ((k < length xs) × (slice_index_or xs k x ≡ x))
  at_place-prop k = hlevel (props, is_set)

  pub Contains-prop : IsProp (Contains xs x)
  Contains-prop a b = go a.0 b.0 (one_place a.0 b.0 a.1 b.1 a.2 b.2) (a.1, a.2) (b.1, b.2)
    where
      same : (j : ℕ) (p q : (j < length xs) × (slice_index_or xs j x ≡ x)) → ◌≡◌ {A = Contains xs x} (j, p.0, p.1) (j, q.0, q.1)
      same j p q = ap {B = Contains xs x} (λ z. (j, z.0, z.1)) (at_place-prop j p q)

      go : (j k : ℕ) → j ≡ k → (p : (j < length xs) × (slice_index_or xs j x ≡ x)) (q : (k < length xs) × (slice_index_or xs k x ≡ x)) → ◌≡◌ {A = Contains xs x} (j, p.0, p.1) (k, q.0, q.1)
      go j k e p q = (subst (λ k. (q : (k < length xs) × (slice_index_or xs k x ≡ x)) → ◌≡◌ {A = Contains xs x} (j, p.0, p.1) (k, q.0, q.1)) e (same j p)) q

never_before : (a : ℕ × ℕ) → IsBefore a a → ⊥
never_before a h = ⊎_elim (λ l. omega (arith, l)) (λ l. omega (arith, l.1)) h

never_earlier : (a : ℕ × ℕ × EdgeFacts) → EdgeBefore a a → ⊥
never_earlier a h = ⊎_elim (λ l. omega (arith, l)) (λ l. omega (arith, l.1)) h

pair-set : IsSet (ℕ × ℕ)
pair-set = hlevel props

pub facts-set : IsSet EdgeFacts
facts-set = hlevel props

edge-set : IsSet (ℕ × ℕ × EdgeFacts)
edge-set = hlevel (props, facts-set)

pub pair_there-prop : (pairs : List (ℕ × ℕ)) → AllPairs IsBefore pairs → (u w : ℕ) → IsProp (Contains pairs (u, w))
pair_there-prop pairs a u w = Contains-prop IsBefore never_before pair-set pairs a (u, w)

pub edge_there-prop : (edges : List (ℕ × ℕ × EdgeFacts)) → AllPairs EdgeBefore edges → (u w : ℕ) (f : EdgeFacts) → IsProp (Contains edges (u, w, f))
edge_there-prop edges a u w f = Contains-prop EdgeBefore never_earlier edge-set edges a (u, w, f)

pub pair_list-prop : (t : Tables) (pairs : List (ℕ × ℕ)) → IsProp (IsPairList t pairs)
pair_list-prop t pairs x y = λ i. record { ascends = order x.ascends y.ascends i; exact = both x.ascends x.exact y.exact i }
  where
    order : IsProp (AllPairs IsBefore pairs)
    order = hlevel (props, earlier-prop)

    both : AllPairs IsBefore pairs → IsProp ((u w : ℕ) → Contains pairs (u, w) ↔ HasCandidate t u w)
    both a = let there : (u w : ℕ) → IsProp (Contains pairs (u, w)) = pair_there-prop pairs a in hlevel (props, there)

gate-prop : (t : Tables) (k gate : ℕ) → IsProp (IsGate t k gate)
gate-prop t k gate = hlevel props

pub built-prop : (t : Tables) (edges : List (ℕ × ℕ × EdgeFacts)) (weak : List (ℕ × ℕ)) → IsProp (AreBuilt t edges weak)
built-prop t edges weak x y = λ i. record { ascends = order x.ascends y.ascends i; exact = both x.ascends x.exact y.exact i; links = links x.links y.links i; gates = gates x.gates y.gates i }
  where
    order : IsProp (AllPairs EdgeBefore edges)
    order = hlevel (props, earlier-prop)

    both : AllPairs EdgeBefore edges → IsProp ((u w : ℕ) (f : EdgeFacts) → Contains edges (u, w, f) ↔ EdgeSays t (map (λ x. x.0) weak) u w f)
    both a = let there : (u w : ℕ) (f : EdgeFacts) → IsProp (Contains edges (u, w, f)) = edge_there-prop edges a in hlevel (props, there)

    links : IsProp (map (λ x. x.0) weak ≡ weak_links edges)
    links = hlevel props

    gates : IsProp ((i k gate : ℕ) → slice_get weak i ≡ Some (k, gate) → IsGate t k gate)
    gates = hlevel (props, gate-prop)
