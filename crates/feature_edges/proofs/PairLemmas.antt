-- The pairs of the least keys are those that have a candidate.
use Rattle.std.proofs.Common.{◌≡◌, ℕ, suc, List, [], ◌∷◌, map, sym, ap, ◌∙◌, subst, arith, Some}
use Rattle.std.specs.Prelude.{◌↔◌, Contains, All, AllPairs, slice_get}
use Rattle.std.specs.Option.{option_map}
use Rattle.std.proofs.lemmas.Option.{slice_get-map}
use Rattle.std.proofs.lemmas.List.Elements.{All-map}
use Rattle.std.proofs.lemmas.List.Kept.{AllPairs-cons}
use Rattle.std.proofs.Math.Logic.{∥∥₁_elim}
use Rattle.digraphs.specs.declared.digraph.Edge.{Edge}
use Rattle.guppy_packages.specs.Tables.{Tables, FeatureTable, AreTables}
use Rattle.feature_edges.specs.Pairs.{IsPairList, IsBefore}
use Rattle.feature_edges.specs.Candidates.{Candidate}
use Rattle.feature_edges.specs.declared.candidate.Key.{Key}
use Rattle.feature_edges.specs.inner.Keys.{AreLeast, edge_of, IsBefore as Before}
use Rattle.feature_edges.specs.inner.Parts.{IsOfTables}
use Rattle.feature_edges.specs.EdgesOnce.{pair_there-prop}
use Rattle.feature_edges.proofs.PushLemmas.{from_map, into_map}
use Rattle.feature_edges.proofs.PartLemmas.{NamesDiffer, contributed, stands_for}
use Rattle.feature_edges.specs.EdgeEnds.{pairs_of}

pub names_differ : (t : Tables) → AreTables t → NamesDiffer t
names_differ t tables p table is i j f g a b e =
    let name_at : (k : ℕ) (h : FeatureTable) → slice_get table.features k ≡ Some h → slice_get (map (λ x. x.name) table.features) k ≡ Some h.name = λ k h at. slice_get-map (λ x. x.name) table.features k ∙ ap (option_map (λ x. x.name)) at in
    tables.features p table is i j f.name (name_at i f a) (name_at j g b ∙ ap Some (sym e))

ascending : (kept : List Key) → AllPairs Before kept → AllPairs IsBefore (pairs_of (map edge_of kept))
ascending [] h = λ i j d l m. absurd (omega arith)
ascending (k ∷ kept) h = AllPairs-cons IsBefore (k.from, k.to) (pairs_of (map edge_of kept)) (after k kept (AllPairs-first k kept h)) (ascending kept (AllPairs-later k kept h))
  where
    AllPairs-first : (x : Key) (xs : List Key) → AllPairs Before (x ∷ xs) → All (Before x) xs
    AllPairs-first x xs h k d l = h 0 (suc k) d (omega arith) (omega arith)

    AllPairs-later : (x : Key) (xs : List Key) → AllPairs Before (x ∷ xs) → AllPairs Before xs
    AllPairs-later x xs h i j d l m = h (suc i) (suc j) d (omega arith) (omega arith)

    after : (x : Key) (xs : List Key) → All (Before x) xs → All (IsBefore (x.from, x.to)) (pairs_of (map edge_of xs))
    after x xs h = All-map (IsBefore (x.from, x.to)) (λ e. (e.from, e.to)) (map edge_of xs) (All-map (λ e. IsBefore (x.from, x.to) (e.from, e.to)) edge_of xs h)

-- the pairs of the least keys are exactly those that have a candidate
pub pairs_kept : (t : Tables) (keys kept : List Key) (edges : List Edge) → AreTables t → ((x : Key) → Contains keys x ↔ IsOfTables t x) → AreLeast keys kept → edges ≡ map edge_of kept → IsPairList t (pairs_of edges)
pairs_kept t keys kept edges tables all least e = subst (λ z. IsPairList t (pairs_of z)) (sym e) (record {
  ascends = ascending kept least.ascends;
  exact = λ u w. (
    (λ h.
        let edge = from_map (λ x. (x.from, x.to)) (map edge_of kept) (u, w) h in
        let k = from_map edge_of kept edge.0 edge.1 in
        let s = stands_for t (names_differ t tables) k.0 ((all k.0).0 (least.from_keys k.0 k.1)) in
        let from : k.0.from ≡ u = ap (λ x. x.from) k.2 ∙ ap (λ x. x.0) edge.2 in
        let to : k.0.to ≡ w = ap (λ x. x.to) k.2 ∙ ap (λ x. x.1) edge.2 in
        ∣ (s.edge, subst (λ z. Candidate t u z s.edge) to (subst (λ z. Candidate t z k.0.to s.edge) from s.candidate)) ∣₁),
    (λ h. ∥∥₁_elim h (pair_there-prop (pairs_of (map edge_of kept)) (ascending kept least.ascends) u w) (λ c.
        let k = contributed t (names_differ t tables) u w c.0 c.1 in
        let served = least.each k.0 ((all k.0).1 k.1) in
        let from : served.by.from ≡ u = served.pair.0 ∙ k.2.from in
        let to : served.by.to ≡ w = served.pair.1 ∙ k.2.to in
        let pair : (served.by.from, served.by.to) ≡ (u, w) = cc in
        subst (λ z. Contains (pairs_of (map edge_of kept)) z) pair (into_map (λ x. (x.from, x.to)) (map edge_of kept) (edge_of served.by) (into_map edge_of kept served.by served.kept_one)))),
  );
})
