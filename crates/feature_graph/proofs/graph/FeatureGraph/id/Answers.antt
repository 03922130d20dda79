use Rattle.std.proofs.Common.{◌<◌, length, arith}
use Rattle.feature_core.specs.Nodes.{nodes}
use Rattle.feature_graph.proofs.BuiltLemmas.{built_count}
use Rattle.feature_graph.proofs.graph.FeatureGraph.id.Goals as goal

pub id-requires-clause-built : goal.id-requires-clause-built
id-requires-clause-built c = c.args.self.now.is_built

pub id-requires-clause-node : goal.id-requires-clause-node
id-requires-clause-node c =
    let count = built_count c.args.self.now.graph.now c.args.self.now.built.now c.args.self.now.is_built in
    let below : c.args.node < length (nodes c.args.self.now.graph.now) = c.requires in
    omega (arith, below, count)
