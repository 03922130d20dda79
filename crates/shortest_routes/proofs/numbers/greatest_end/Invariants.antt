use Rattle.std.proofs.Common.{◌≤◌, ℕ, take, Contains}
use Rattle.shortest_routes.proofs.numbers.greatest_end.Given as goal

abbrev pub invariant-loop-link : goal.invariant-loop-link
invariant-loop-link l = (from to : ℕ) → Contains (take l.link-index l.links) (from, to) → (from ≤ l.greatest) × (to ≤ l.greatest)
