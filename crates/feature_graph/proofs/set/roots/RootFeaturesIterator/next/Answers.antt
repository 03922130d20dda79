use Rattle.std.proofs.Common.{◌<◌, length}
use Rattle.std.specs.Vec.Iter.{into_iter_items}
use Rattle.std.proofs.lemmas.List.Elements.{All-rest}
use Rattle.feature_core.specs.Nodes.{nodes}
use Rattle.feature_graph.specs.Views.{tables_of_graph}
use Rattle.feature_graph.proofs.set.roots.RootFeaturesIterator.next.Goals as goal

pub invariant_of-self-2 : goal.invariant_of-self-2
invariant_of-self-2 c = All-rest (λ n. n < length (nodes (tables_of_graph c.self.inside.graph))) c.in_ok-node.node (into_iter_items c.next.new.self) (into_iter_items c.self.inside.numbers) c.in_ok-node.ensures.cases.0 c.self.invariant
