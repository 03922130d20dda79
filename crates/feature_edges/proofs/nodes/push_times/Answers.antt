use Rattle.feature_edges.proofs.NodeLemmas.{pushed-next}
use Rattle.feature_edges.proofs.nodes.push_times.Goals as goal

pub loop-preserved : goal.loop-preserved
loop-preserved c = pushed-next c.args.numbers.now.items c.loop.numbers.items c.push.new.self.items c.loop.counter c.args.number c.loop.invariant c.in_ok-push.ensures.items
