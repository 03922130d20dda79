use Rattle.std.proofs.Common.{take}
use Rattle.walk_checks.specs.inner.Tests.{unmarked, NamesOnly}
use Rattle.walk_checks.proofs.exact.are_spared.Given as goal

abbrev pub invariant-loop-step : goal.invariant-loop-step
invariant-loop-step l = NamesOnly (unmarked l.refusals) (take l.step-index l.steps)
