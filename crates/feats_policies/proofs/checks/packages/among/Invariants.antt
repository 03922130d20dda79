use Rattle.std.proofs.Common.{◌≡◌, ◌++◌, drop, filter}
use Rattle.feats_policies.specs.checks.inner.Groups.{builds_anywhere}
use Rattle.feats_policies.proofs.checks.packages.among.Given as goal

abbrev pub invariant-loop-number : goal.invariant-loop-number
invariant-loop-number l =
    filter (builds_anywhere l.built) l.numbers ≡ l.among.items ++ filter (builds_anywhere l.built) (drop l.number-index l.numbers)
