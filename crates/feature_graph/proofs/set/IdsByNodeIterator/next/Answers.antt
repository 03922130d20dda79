use Rattle.feature_core.specs.Nodes.{nodes}
use Rattle.feature_graph.specs.Views.{tables_of_graph}
use Rattle.feature_graph.proofs.MemberNames.{others_within}
use Rattle.feature_graph.proofs.set.IdsByNodeIterator.next.Goals as goal

pub invariant_of-self-2 : goal.invariant_of-self-2
invariant_of-self-2 c = others_within (nodes (tables_of_graph c.self.inside.graph)) c.self.inside.numbers c.next.new.self c.in_ok-node.node c.in_ok-node.ensures.steps c.self.invariant
