-- The ends of the built edges make a digraph.
use Rattle.std.proofs.Common.{◌≡◌, ℕ, ⊎_elim, List, length, Some, refl, ap, ◌∙◌, subst, arith, get_or}
use Rattle.std.specs.Prelude.{slice_get, slice_index}
use Rattle.std.specs.Option.{option_map}
use Rattle.std.proofs.Math.Logic.{∥∥₁_elim}
use Rattle.std.proofs.Props.{props}
use Rattle.std.proofs.lemmas.List.{length-map}
use Rattle.std.proofs.lemmas.Option.{slice_get-map, get_or_from_slice_get}
use Rattle.digraphs.specs.Graph.{IsDigraph, IsRefused, IsBefore, sources, targets, for_its_ends, for_its_place, for_memory}
use Rattle.digraphs.specs.declared.digraph.DigraphError.{DigraphError}
use Rattle.digraphs.specs.declared.digraph.DigraphError.TheVariants.{Memory}
use Rattle.digraphs.specs.declared.digraph.Edge.{Edge as End}
use Rattle.guppy_packages.specs.Tables.{Tables}
use Rattle.feature_edges.specs.EdgeEnds.{pairs_of}
use Rattle.feature_edges.specs.Nodes.{node_packages}
use Rattle.feature_edges.specs.Pairs.{IsPairList, IsBefore as PairBefore}
use Rattle.feature_edges.proofs.AddsLemmas.{element_at_place}
use Rattle.feature_edges.proofs.CandidateNodes.{AreWithin, candidate_within}
use Rattle.feature_edges.proofs.NodeLabels.{element_within, index_there}
use Rattle.feature_edges.proofs.PushLemmas.{into_map}

-- valid edges are rejected only if an allocation fails
pub no_fault : (n : ℕ) (es : List End) (e : DigraphError) → IsDigraph (record { nodes = n; edges = es }) → IsRefused n es e → e ≡ Memory
no_fault n es e sound (for_its_ends k l before apart) = absurd (apart (sound k l).nodes)
no_fault n es e sound (for_its_place j k next l before nodes apart) = absurd (apart ((sound k l).sorted j next))
no_fault n es e sound (for_memory all) = refl

source_at : (es : List End) (k : ℕ) (x : End) → slice_get es k ≡ Some x → slice_index (sources es) k ≡ x.from
source_at es k x at = index_there (sources es) k x.from (slice_get-map (λ (e : End). e.from) es k ∙ ap (option_map (λ (e : End). e.from)) at)

target_at : (es : List End) (k : ℕ) (x : End) → slice_get es k ≡ Some x → slice_index (targets es) k ≡ x.to
target_at es k x at = index_there (targets es) k x.to (slice_get-map (λ (e : End). e.to) es k ∙ ap (option_map (λ (e : End). e.to)) at)

pair_at : (es : List End) (k : ℕ) (x : End) → slice_get es k ≡ Some x → get_or (pairs_of es) k (0, 0) ≡ (x.from, x.to)
pair_at es k x at = get_or_from_slice_get (pairs_of es) k (x.from, x.to) (0, 0) (slice_get-map (λ (e : End). (e.from, e.to)) es k ∙ ap (option_map (λ (e : End). (e.from, e.to))) at)

in_order : (a b c d : ℕ) → PairBefore (a, b) (c, d) → IsBefore a b c d
in_order a b c d h = record {
  by_first = ⊎_elim (λ l. omega (arith, l)) (λ l. omega (arith, l.0)) h;
  by_second = λ e. ⊎_elim (λ l. omega (arith, l, e)) (λ l. l.1) h;
}

-- the pairs that have a candidate make a digraph of the nodes
pub pairs_sound : (t : Tables) (es : List End) → IsPairList t (pairs_of es) → IsDigraph (record { nodes = length (node_packages t); edges = es })
pairs_sound t es h k l =
    let x = element_within es k l in
    let there = (h.exact x.0.from x.0.to).0 (into_map (λ (e : End). (e.from, e.to)) es x.0 (element_at_place es k x.0 x.1)) in
    let both : IsProp (AreWithin t x.0.from x.0.to) = hlevel props in
    let within : AreWithin t x.0.from x.0.to = ∥∥₁_elim there both (λ c. candidate_within t x.0.from x.0.to c.0 c.1) in
    let from = source_at es k x.0 x.1 in
    let to = target_at es k x.0 x.1 in
    record {
      nodes = record { from = omega (arith, from, within.0); to = omega (arith, to, within.1) };
      sorted = λ j next.
          let y = element_within es j (omega (arith, next, l)) in
          let long : length (pairs_of es) ≡ length es = length-map es (λ (e : End). (e.from, e.to)) in
          let before : PairBefore (get_or (pairs_of es) j (0, 0)) (get_or (pairs_of es) k (0, 0)) = h.ascends j k (0, 0) (omega (arith, next)) (omega (arith, long, l)) in
          let pairs : PairBefore (y.0.from, y.0.to) (x.0.from, x.0.to) = subst (λ z. PairBefore (y.0.from, y.0.to) z) (pair_at es k x.0 x.1) (subst (λ z. PairBefore z (get_or (pairs_of es) k (0, 0))) (pair_at es j y.0 y.1) before) in
          let order = in_order y.0.from y.0.to x.0.from x.0.to pairs in
          let from_j = source_at es j y.0 y.1 in
          let to_j = target_at es j y.0 y.1 in
          record { by_first = omega (arith, order.by_first, from, from_j); by_second = λ e. omega (arith, order.by_second (omega (arith, e, from, from_j)), to, to_j) };
    }
