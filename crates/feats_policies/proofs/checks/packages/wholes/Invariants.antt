use Rattle.std.proofs.Common.{◌≡◌, ◌++◌, ℕ, map, drop}
use Rattle.plan_names.specs.Names.{of_package, whole}
use Rattle.plan_names.specs.Views.{named_text}
use Rattle.feats_policies.proofs.checks.packages.wholes.Given as goal

abbrev pub invariant-loop-number : goal.invariant-loop-number
invariant-loop-number l =
    let wholes = map (λ (p : ℕ). of_package p whole) in
    wholes l.numbers ≡ map named_text l.named.items ++ wholes (drop l.number-index l.numbers)
