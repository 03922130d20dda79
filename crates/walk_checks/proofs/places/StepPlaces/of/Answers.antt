use Rattle.std.proofs.Common.{◌≡◌, ◌∙◌, ◌+◌, ◌<◌, ◌≤◌, ℕ, suc, Option, None, Some, List, length, take, sym, ap, subst, arith, length-set}
use Rattle.std.specs.Prelude.{slice_index_or, slice_set}
use Rattle.std.proofs.lemmas.List.{length-map, length-replicate, take_all}
use Rattle.std.proofs.lemmas.Option.{slice_get-get_or}
use Rattle.walk_engine.specs.declared.walks.Step.{Step}
use Rattle.walk_engine.specs.declared.walks.StepReason.TheVariants.{Initial}
use Rattle.walk_engine.specs.Explanations.{nodes_of}
use Rattle.walk_checks.proofs.Steps.{node_at}
use Rattle.walk_checks.proofs.PlaceLemmas.{Placed, listed_at, placed_none, placed_more}
use Rattle.walk_checks.proofs.places.StepPlaces.of.Goals as goal

pub loop-place-init : goal.loop-place-init
loop-place-init c = record {
  size = ap length c.in_ok-places.ensures ∙ length-replicate c.args.node_count None;
  placed = placed_none c.args.node_count (nodes_of c.args.steps.now) c.in_ok-places.places.items c.in_ok-places.ensures;
}

pub loop-place-preserved : goal.loop-place-preserved
loop-place-preserved c =
    let steps : List Step = c.args.steps.now in
    let d : Step = record { node = 0; reason = Initial } in
    let i : ℕ = c.loop-place.place in
    let s : Step = slice_index_or steps i d in
    let list : List (Option ℕ) = c.loop-place.places.items in
    let inside : i < length steps = omega arith in
    let next : suc i ≡ i + 1 = omega arith in
    let more = placed_more c.args.node_count i s.node (nodes_of steps) list c.loop-place.invariant.size (node_at steps i s (slice_get-get_or steps i d inside)) c.loop-place.invariant.placed in
    record {
      size = ap length c.put.ensures ∙ (length-set list s.node (Some i) ∙ c.loop-place.invariant.size);
      placed = subst (λ (xs : List (Option ℕ)). Placed c.args.node_count (take (i + 1) (nodes_of steps)) (nodes_of steps) (listed_at xs)) (sym c.put.ensures)
          (subst (λ (k : ℕ). Placed c.args.node_count (take k (nodes_of steps)) (nodes_of steps) (listed_at (slice_set list s.node (Some i)))) next more);
    }

pub returns : goal.returns
returns c =
    let steps : List Step = c.args.steps.now in
    let long : length (nodes_of steps) ≡ length steps = length-map steps (λ (s : Step). s.node) in
    let done : length (nodes_of steps) ≤ c.loop-place.place = omega arith in
    subst (λ (xs : List ℕ). Placed c.args.node_count xs (nodes_of steps) (listed_at c.loop-place.places.items)) (take_all c.loop-place.place (nodes_of steps) done) c.loop-place.invariant.placed
