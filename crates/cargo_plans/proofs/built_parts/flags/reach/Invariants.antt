use Rattle.std.proofs.Common.{◌≡◌, ℕ, length, ◌+◌, ◌-◌}
use Rattle.cargo_plans.specs.built_parts.BuiltViews.{flag_at}
use Rattle.cargo_plans.proofs.built_parts.flags.reach.Given as goal

abbrev pub invariant-loop-flags : goal.invariant-loop-flags
invariant-loop-flags l = (k : ℕ) → flag_at l.flags.items k ≡ flag_at l.initial.flags.items k

abbrev pub decreases-loop-flags : goal.decreases-loop-flags
decreases-loop-flags l = l.number + 1 - length l.flags.items
