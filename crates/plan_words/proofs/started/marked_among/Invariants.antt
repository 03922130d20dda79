use Rattle.std.proofs.Common.{◌≡◌, ◌++◌, ℕ, drop, get_or, false}
use Rattle.std.specs.List.{filter}
use Rattle.plan_words.proofs.started.marked_among.Given as goal

abbrev pub invariant-loop-number : goal.invariant-loop-number
invariant-loop-number l =
    filter (λ (n : ℕ). get_or l.list n false) l.numbers ≡ l.some.items ++ filter (λ (n : ℕ). get_or l.list n false) (drop l.number-index l.numbers)
