use Rattle.feature_labels.specs.Names.{id_of}
use Rattle.feature_graph.proofs.SetLemmas.{node_within}
use Rattle.feature_graph.proofs.graph.FeatureGraph.node.Goals as goal

pub node-requires : goal.node-requires
node-requires c = c.args.self.now.is_built

pub returns-clause-within : goal.returns-clause-within
returns-clause-within c = node_within c.args.self.now.graph.now (id_of c.args.id) c.node.result c.node.ensures
