use Rattle.std.proofs.Common.{◌≡◌, ℕ, length, ◌+◌, ◌-◌}
use Rattle.cargo_plans.specs.built_parts.BuiltViews.{slot_at}
use Rattle.cargo_plans.proofs.built_parts.scripts.reach.Given as goal

abbrev pub invariant-loop-first : goal.invariant-loop-first
invariant-loop-first l = (q : ℕ) → slot_at l.first.items q ≡ slot_at l.initial.first.items q

abbrev pub decreases-loop-first : goal.decreases-loop-first
decreases-loop-first l = l.number + 1 - length l.first.items
