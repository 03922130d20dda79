use Rattle.std.proofs.Common.{◌||◌, ◌&&◌, ◌∙◌, ℕ, Bool, List, sym, ap, arith}
use Rattle.std.specs.Prelude.{slice_index_or, ◌==◌}
use Rattle.std.proofs.lemmas.List.{take_all}
use Rattle.walk_engine.specs.declared.walks.Half.{Half}
use Rattle.walk_engine.specs.declared.walks.Half.TheVariants.{Full}
use Rattle.walk_engine.specs.Walks.{is_half}
use Rattle.walk_checks.specs.Exact.{is_refused}
use Rattle.walk_checks.proofs.Runs.{refused_step}
use Rattle.walk_checks.proofs.refusals.Refusals.of.Goals as goal

pub loop-edge-preserved : goal.loop-edge-preserved
loop-edge-preserved c =
    let d : ℕ × Half = (0, Full) in
    let noted = c.note.ensures c.args.edge_count c.loop-edge.invariant.sized in
    record {
      sized = noted.0;
      marked = λ e h l. noted.1 e h l ∙ (ap (λ (b : Bool). b || (((slice_index_or c.args.refused.now c.loop-edge.edge-index d).0 == e) && is_half (slice_index_or c.args.refused.now c.loop-edge.edge-index d).1 h)) (c.loop-edge.invariant.marked e h l) ∙ sym (refused_step c.args.refused.now c.loop-edge.edge-index d e h (omega arith)));
    }

pub returns : goal.returns
returns c = λ e h l. c.loop-edge.invariant.marked e h l ∙ ap (λ (xs : List (ℕ × Half)). is_refused xs e h) (take_all c.loop-edge.edge-index c.args.refused.now (omega arith))
