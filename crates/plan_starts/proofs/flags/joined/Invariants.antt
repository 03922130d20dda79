use Rattle.std.proofs.Common.{◌≡◌, ◌++◌}
use Rattle.plan_starts.specs.Starts.{times}
use Rattle.plan_starts.proofs.flags.joined.Given as goal

abbrev pub invariant-loop-number : goal.invariant-loop-number
invariant-loop-number l = l.flags.items ≡ l.host ++ times l.number l.target
