use Rattle.std.proofs.Common.{◌≡◌, ℕ, None, get_or, length, take}
use Rattle.shortest_routes.specs.Routes.{IsStartOf}
use Rattle.shortest_routes.specs.inner.Nearest.{IsNearest}
use Rattle.shortest_routes.proofs.nearest.nearest_starts.Given as goal

abbrev pub invariant-loop-start : goal.invariant-loop-start
invariant-loop-start l = record {
  size : length l.nearest.items ≡ l.count;
  near : (o : ℕ) → IsNearest l.table (IsStartOf l.owners (take l.start-index l.starts) o) (get_or l.nearest.items o None);
}
