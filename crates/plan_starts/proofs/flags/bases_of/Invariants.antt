use Rattle.std.proofs.Common.{◌≡◌, ◌++◌, drop, map}
use Rattle.plan_starts.specs.step_visits.Visits.{place_view}
use Rattle.plan_starts.specs.Starts as spec
use Rattle.plan_starts.proofs.flags.bases_of.Given as goal

abbrev pub invariant-loop-ix : goal.invariant-loop-ix
invariant-loop-ix l = spec.bases_of l.flags ≡ map place_view l.places.items ++ spec.bases_from l.ix (drop l.ix l.flags)
