use Rattle.std.proofs.Common.{refl, subst, arith}
use Rattle.std.proofs.lemmas.List.{take_all}
use Rattle.walk_engine.specs.declared.walks.Step.{Step}
use Rattle.walk_engine.specs.declared.walks.StepReason.TheVariants.{Initial}
use Rattle.walk_checks.specs.inner.Tests.{unmarked, NamesOnly}
use Rattle.walk_checks.proofs.Exactness.{spared_step}
use Rattle.walk_checks.proofs.exact.are_spared.Goals as goal

pub loop-step-preserved : goal.loop-step-preserved
loop-step-preserved c =
    let d : Step = record { node = 0; reason = Initial } in
    spared_step (unmarked c.args.refusals.now) c.args.steps.now c.loop-step.step-index d (omega arith) c.loop-step.invariant (c.is_spared.ensures.0 c.if-not-is_spared.false)

pub returns : goal.returns
returns c = (
  λ _. subst (NamesOnly (unmarked c.args.refusals.now)) (take_all c.loop-step.step-index c.args.steps.now (omega arith)) c.loop-step.invariant,
  λ _. refl,
)
