use Rattle.std.proofs.Common.{◌<◌, ◌∙◌, ℕ, List, length, refl, sym, subst, arith}
use Rattle.std.specs.Prelude.{IsTrue, slice_index_or}
use Rattle.std.proofs.lemmas.List.{take_all}
use Rattle.digraphs.specs.Bits.{has}
use Rattle.walk_engine.specs.declared.walks.Step.{Step}
use Rattle.walk_engine.specs.declared.walks.StepReason.TheVariants.{Initial}
use Rattle.walk_engine.specs.Walks.{is_in}
use Rattle.walk_engine.specs.Explanations.{nodes_of}
use Rattle.walk_checks.specs.inner.Tests.{unmarked}
use Rattle.walk_checks.proofs.Bools.{clash}
use Rattle.walk_checks.proofs.Numbers.{has_within}
use Rattle.walk_checks.proofs.Exactness.{closed_step, step_listed}
use Rattle.walk_checks.proofs.exact.is_closed.Goals as goal

pub are_kept-requires : goal.are_kept-requires
are_kept-requires g c =
    let d : Step = record { node = 0; reason = Initial } in
    let steps = c.args.steps.now in
    let i = c.loop-step.step-index in
    let node : ℕ = (slice_index_or steps i d).node in
    let r : node < length c.args.listed.now = has_within c.args.listed.now node (c.requires.listed node ∙ step_listed steps i d (omega arith)) in
    omega (arith, c.requires.size)

pub returns-then-not-are_kept : goal.returns-then-not-are_kept
returns-then-not-are_kept g c = (
  λ t. absurd (clash t refl),
  λ all.
      let d : Step = record { node = 0; reason = Initial } in
      let steps = c.args.steps.now in
      let i = c.loop-step.step-index in
      let node : ℕ = (slice_index_or steps i d).node in
      let here : IsTrue (has c.args.listed.now node) = c.requires.listed node ∙ step_listed steps i d (omega arith) in
      absurd (clash (c.are_kept.ensures.1 (λ e w is start. all e w is (subst (λ (k : ℕ). IsTrue (has c.args.listed.now k)) (sym start) here))) c.if-not-are_kept.true),
)

pub loop-step-preserved : goal.loop-step-preserved
loop-step-preserved g c =
    let d : Step = record { node = 0; reason = Initial } in
    closed_step (g.T.EdgeTable.content c.args.table.now) (unmarked c.args.refusals.now) (has c.args.listed.now) c.args.steps.now c.loop-step.step-index d (omega arith) c.loop-step.invariant (c.are_kept.ensures.0 c.if-not-are_kept.false)

pub returns : goal.returns
returns g c = (
  λ _ e w is t. c.loop-step.invariant e w is (subst (λ (xs : List Step). IsTrue (is_in (nodes_of xs) w.start)) (sym (take_all c.loop-step.step-index c.args.steps.now (omega arith))) (sym (c.requires.listed w.start) ∙ t)),
  λ _. refl,
)
