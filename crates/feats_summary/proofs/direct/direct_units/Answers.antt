use Rattle.std.proofs.Common.{◌∙◌, ℕ, Bool, ap, arith, map, sym}
use Rattle.std.specs.Prelude.{◌||◌, slice_index_or}
use Rattle.std.proofs.lemmas.List.Folds.{list_any_more}
use Rattle.cargo_plans.specs.plan_units.UnitViews.{unit_text}
use Rattle.feats_summary.specs.Summaries.{is_from_member}
use Rattle.feats_summary.proofs.direct.direct_units.Goals as goal

pub loop-link-preserved : goal.loop-link-preserved
loop-link-preserved c =
    let long = c.loop-link.invariant.size in
    let test : ℕ → ℕ × ℕ → Bool = λ k. is_from_member c.args.members.now (map unit_text c.args.units.now) k in
    record {
      size = c.note.ensures.size ∙ long;
      marks = λ k below.
          c.note.ensures.marks k (omega (arith, below, long))
          ∙ ap (λ (b : Bool). b || test k (slice_index_or c.args.links.now c.loop-link.link-index (0, 0))) (c.loop-link.invariant.marks k below)
          ∙ sym (list_any_more (test k) c.args.links.now c.loop-link.link-index (0, 0) (omega (arith, c.loop-link-test.true)));
    }
