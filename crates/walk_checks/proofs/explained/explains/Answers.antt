use Rattle.std.proofs.Common.{◌<◌, ◌∙◌, ℕ, Bool, ◌||◌, List, length, take, sym, refl, ap, arith}
use Rattle.std.specs.Prelude.{◌==◌, slice_index_or}
use Rattle.std.proofs.Math.ListN.{length-set}
use Rattle.std.proofs.lemmas.Option.{slice_get-get_or}
use Rattle.digraphs.specs.Bits.{has}
use Rattle.walk_engine.specs.declared.walks.Step.{Step}
use Rattle.walk_engine.specs.declared.walks.StepReason.TheVariants.{Initial}
use Rattle.walk_engine.specs.Explanations.{nodes_of}
use Rattle.walk_engine.specs.Laws.{every}
use Rattle.walk_checks.proofs.Bools.{clash}
use Rattle.walk_checks.proofs.Numbers.{marked_is}
use Rattle.walk_checks.proofs.Steps.{explained_at}
use Rattle.walk_checks.proofs.Exactness.{explained_step, listed_step}
use Rattle.walk_checks.proofs.explained.explains.Goals as goal

pub returns-then-not-is_next-clause-explained : goal.returns-then-not-is_next-clause-explained
returns-then-not-is_next-clause-explained g c = (
  λ t. absurd (clash t refl),
  λ ok.
      let i = c.loop-step.step-index in
      let steps = c.args.steps.now in
      let d : Step = record { node = 0; reason = Initial } in
      let at = explained_at (g.T.EdgeTable.content c.args.table.now) (has c.args.initials.now) every steps i (slice_index_or steps i d) ok (slice_get-get_or steps i d (omega arith)) in
      absurd (clash ((c.is_next.ensures.next (nodes_of (take i steps)) c.loop-step.invariant.listed).1 at) c.if-not-is_next.true),
)

pub loop-step-preserved : goal.loop-step-preserved
loop-step-preserved g c =
    let i = c.loop-step.step-index in
    let steps = c.args.steps.now in
    let d : Step = record { node = 0; reason = Initial } in
    let l : i < length steps = omega arith in
    let at = (c.is_next.ensures.next (nodes_of (take i steps)) c.loop-step.invariant.listed).0 c.if-not-is_next.false in
    let node : ℕ = (slice_index_or steps i d).node in
    let inside : node < length c.loop-step.listed = c.is_next.ensures.node c.if-not-is_next.false in
    record {
      size = ap length c.insert.ensures ∙ (length-set c.loop-step.listed node _ ∙ c.loop-step.invariant.size);
      explained = explained_step (g.T.EdgeTable.content c.args.table.now) (has c.args.initials.now) steps i d l c.loop-step.invariant.explained at.0 at.1;
      listed = λ n. ap (λ (s : List Bool). has s n) c.insert.ensures ∙ (marked_is c.loop-step.listed node n inside ∙ (ap (λ (b : Bool). b || (node == n)) (c.loop-step.invariant.listed n) ∙ sym (listed_step steps i d n l)));
    }
