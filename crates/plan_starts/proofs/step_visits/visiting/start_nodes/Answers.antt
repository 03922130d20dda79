use Rattle.std.proofs.Common.{arith}
use Rattle.plan_starts.proofs.VisitStarts.{marked_all}
use Rattle.plan_starts.proofs.step_visits.visiting.start_nodes.Goals as goal

pub returns-clause-nodes : goal.returns-clause-nodes
returns-clause-nodes c = marked_all c.args.packages.now c.args.starts.now c.starts.ix-index c.starts.set (omega (arith, c.starts-test.false)) c.starts.invariant.marks
