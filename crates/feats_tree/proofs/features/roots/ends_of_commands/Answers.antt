use Rattle.std.proofs.Common.{◌∙◌, ℕ, Bool, ap, arith, map, sym}
use Rattle.std.specs.Prelude.{◌||◌, slice_index_or}
use Rattle.std.proofs.lemmas.List.Folds.{list_any_more}
use Rattle.plan_whys.specs.StepViews.{spot_text}
use Rattle.feats_tree.specs.features.Roots.{is_asked_by}
use Rattle.feats_tree.proofs.features.roots.ends_of_commands.Goals as goal

pub loop-link-preserved : goal.loop-link-preserved
loop-link-preserved c =
    let long = c.loop-link.invariant.size in
    let test : ℕ → ℕ × ℕ → Bool = λ k. is_asked_by (map spot_text c.args.spots.now) k in
    record {
      size = c.note.ensures.size ∙ long;
      marks = λ k below.
          c.note.ensures.marks k (omega (arith, below, long))
          ∙ ap (λ (b : Bool). b || test k (slice_index_or c.args.links.now c.loop-link.link-index (0, 0))) (c.loop-link.invariant.marks k below)
          ∙ sym (list_any_more (test k) c.args.links.now c.loop-link.link-index (0, 0) (omega (arith, c.loop-link-test.true)));
    }
