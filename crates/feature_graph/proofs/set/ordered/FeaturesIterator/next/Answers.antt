use Rattle.std.proofs.Common.{◌<◌, length}
use Rattle.std.proofs.lemmas.List.Elements.{All-rest}
use Rattle.feature_core.specs.Nodes.{nodes}
use Rattle.feature_graph.specs.Views.{tables_of_graph}
use Rattle.feature_graph.proofs.set.ordered.FeaturesIterator.next.Goals as goal

pub invariant_of-self-2 : goal.invariant_of-self-2
invariant_of-self-2 c = All-rest (λ n. n < length (nodes (tables_of_graph c.self.inside.graph))) c.in_ok-node.node c.next.new.self c.self.inside.numbers c.in_ok-node.ensures.steps c.self.invariant
