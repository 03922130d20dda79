-- The least keys represent the edges, and all of them.
use Rattle.std.proofs.Common.{◌≡◌, suc, ◌≤◌, ⊎_elim, List, [], ◌∷◌, sym, ◌∙◌, ap, subst, arith}
use Rattle.std.specs.Prelude.{◌↔◌, Contains, All, AllPairs}
use Rattle.std.proofs.lemmas.List.Elements.{All-contains}
use Rattle.guppy_packages.specs.Tables.{Tables}
use Rattle.feature_edges.specs.Candidates.{Edge, Candidate, IsEdge}
use Rattle.feature_edges.specs.declared.candidate.Key.{Key}
use Rattle.feature_edges.specs.inner.Keys.{rank, kind_of, AreLeast, IsBefore}
use Rattle.feature_edges.specs.inner.Parts.{IsOfTables}
use Rattle.feature_edges.proofs.AddsLemmas.{Contains-cases, Contains-none}
use Rattle.feature_edges.proofs.KindLemmas.{rank_kind}
use Rattle.feature_edges.proofs.PartLemmas.{NamesDiffer, contributed}

first_before : (x : Key) (xs : List Key) → AllPairs IsBefore (x ∷ xs) → All (IsBefore x) xs
first_before x xs h k d l = h 0 (suc k) d (omega arith) (omega arith)

later_before : (x : Key) (xs : List Key) → AllPairs IsBefore (x ∷ xs) → AllPairs IsBefore xs
later_before x xs h i j d l m = h (suc i) (suc j) d (omega arith) (omega arith)

pub not_before : (a b : Key) → a.from ≡ b.from → a.to ≡ b.to → IsBefore a b → ⊥
not_before a b from to h = ⊎_elim (λ l. omega (arith, l, from)) (λ l. omega (arith, l.1, to)) h

-- a pair has one kept key
pub one_kept : (kept : List Key) → AllPairs IsBefore kept → (a b : Key) → Contains kept a → Contains kept b → a.from ≡ b.from → a.to ≡ b.to → a ≡ b
one_kept [] h a b i j from to = absurd (Contains-none a i)
one_kept (k ∷ kept) h a b i j from to = ⊎_elim
    (λ e. ⊎_elim
    (λ f. sym e ∙ f)
    (λ f. absurd (not_before a b from to (subst (λ z. IsBefore z b) e (after b f))))
    (Contains-cases k kept b j))
    (λ e. ⊎_elim
    (λ f. absurd (not_before b a (sym from) (sym to) (subst (λ z. IsBefore z a) f (after a e))))
    (λ f. one_kept kept (later_before k kept h) a b e f from to)
    (Contains-cases k kept b j))
    (Contains-cases k kept a i)
  where
    after : (x : Key) → Contains kept x → IsBefore k x
    after x c = All-contains (IsBefore k) kept x (first_before k kept h) c

-- a candidate of a kept key's kind is the edge of the key's pair
pub least_is_edge : (t : Tables) (differ : NamesDiffer t) (keys : List Key) → ((x : Key) → Contains keys x ↔ IsOfTables t x) → (kept : List Key) → AreLeast keys kept
    → (x : Key) → Contains kept x → (e : Edge) → Candidate t x.from x.to e → x.kind ≡ kind_of e → IsEdge t x.from x.to e
least_is_edge t differ keys all kept least x c e candidate kind = record {
  candidate = candidate;
  least = λ other o.
      let k = contributed t differ x.from x.to other o in
      let served = least.each k.0 ((all k.0).1 k.1) in
      let same : served.by ≡ x = one_kept kept least.ascends served.by x served.kept_one c (served.pair.0 ∙ k.2.from) (served.pair.1 ∙ k.2.to) in
      let below : rank x.kind ≤ rank k.0.kind = subst (λ z. rank z.kind ≤ rank k.0.kind) same served.least in
      omega (arith, below, ap rank kind, rank_kind e, ap rank k.2.kind, rank_kind other);
}
