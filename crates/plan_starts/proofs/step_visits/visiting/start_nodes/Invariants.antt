use Rattle.std.proofs.Common.{◌≡◌, length}
use Rattle.plan_starts.proofs.VisitStarts.{AreMarked}
use Rattle.plan_starts.proofs.step_visits.visiting.start_nodes.Given as goal

abbrev pub invariant-starts : goal.invariant-starts
invariant-starts l = record {
  size : length l.set ≡ length l.built.packages;
  marks : AreMarked l.packages l.starts l.ix-index l.set;
}
