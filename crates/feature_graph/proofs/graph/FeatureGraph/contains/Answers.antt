use Rattle.feature_labels.specs.Names.{id_of}
use Rattle.feature_graph.proofs.SetLemmas.{is_known}
use Rattle.feature_graph.proofs.graph.FeatureGraph.contains.Goals as goal

pub returns : goal.returns
returns c = is_known c.args.self.now.graph.now (id_of c.args.id) c.node.result c.is_some.result c.is_some.ensures c.node.ensures.named
