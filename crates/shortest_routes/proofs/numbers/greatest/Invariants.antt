use Rattle.std.proofs.Common.{◌≤◌, ℕ, take, Contains}
use Rattle.shortest_routes.proofs.numbers.greatest.Given as goal

abbrev pub invariant-loop-number : goal.invariant-loop-number
invariant-loop-number l = (n : ℕ) → Contains (take l.number-index l.numbers) n → n ≤ l.greatest
