use Rattle.std.proofs.Common.{map, take}
use Rattle.plan_rows.specs.platforms.HeldSpecs.{holds_on}
use Rattle.plan_rows.specs.platforms.Views.{declared_text}
use Rattle.plan_rows.specs.platforms.inner.Holding.{IsHolding}
use Rattle.plan_rows.proofs.platforms.holding.held_specs.Given as goal

abbrev pub invariant-loop-declared : goal.invariant-loop-declared
invariant-loop-declared l = IsHolding l.target (map declared_text (take l.declared-index l.specs)) (holds_on l.held)
