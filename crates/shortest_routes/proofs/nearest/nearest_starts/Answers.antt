use Rattle.std.proofs.Common.{◌∙◌, ◌<◌, ℕ, List, None, Option, ap, get_or, length, subst, sym, take}
use Rattle.std.proofs.lemmas.List.{length-replicate}
use Rattle.shortest_routes.specs.Routes.{IsStartOf}
use Rattle.shortest_routes.proofs.ListLemmas.{all_taken, blank_at, from_taken}
use Rattle.shortest_routes.proofs.NearestLemmas.{nearest_begun, nearest_more, same_nearest}
use Rattle.shortest_routes.proofs.nearest.nearest_starts.Goals as goal

pub loop-start-init : goal.loop-start-init
loop-start-init c = record {
  size = ap length c.in_ok-nearest.ensures ∙ length-replicate {A = Option ℕ} c.in_ok-count.count None;
  near = λ o. nearest_begun c.args.table.now c.args.owners.now c.args.starts.now o (get_or c.in_ok-nearest.nearest.items o None)
      (ap (λ (z : List (Option ℕ)). get_or z o None) c.in_ok-nearest.ensures ∙ blank_at c.in_ok-count.count o);
}

pub loop-start-preserved : goal.loop-start-preserved
loop-start-preserved c = record {
  size = c.note_start.ensures.size ∙ c.loop-start.invariant.size;
  near = λ o. nearest_more c.args.table.now c.args.owners.now c.args.starts.now c.loop-start.start-index o _ _ c.loop-start-test.true (c.loop-start.invariant.near o) (c.note_start.ensures.noted o);
}

pub returns-clause-size : goal.returns-clause-size
returns-clause-size c = λ node owner e. subst (λ n. owner < n) (sym c.loop-start.invariant.size) (c.in_ok-count.ensures node owner e)

pub returns-clause-nearest : goal.returns-clause-nearest
returns-clause-nearest c = λ o.
    let owners = c.args.owners.now in
    let starts = c.args.starts.now in
    let i = c.loop-start.start-index in
    same_nearest c.args.table.now (IsStartOf owners (take i starts) o) (IsStartOf owners starts o)
    (λ n h. (from_taken starts i n c.loop-start-test.false h.0, h.1)) (λ n h. (all_taken starts i n c.loop-start-test.false h.0, h.1))
    (get_or c.loop-start.nearest.items o None) (c.loop-start.invariant.near o)
