use Rattle.std.proofs.Common.{◌≡◌, ◌++◌, ℕ, map, drop}
use Rattle.plan_names.specs.Names as spec
use Rattle.plan_names.specs.Views.{named_text}
use Rattle.plan_names.proofs.words.wholes.Given as goal

abbrev pub invariant-loop-number : goal.invariant-loop-number
invariant-loop-number l =
    let whole = map (λ (k : ℕ). spec.of_package k spec.whole) in
    whole l.numbers ≡ map named_text l.named.items ++ whole (drop l.number-index l.numbers)
