use Rattle.std.proofs.Common.{◌<◌, length, arith}
use Rattle.feature_labels.specs.Names.{id_of}
use Rattle.feature_core.specs.Nodes.{nodes}
use Rattle.feature_graph.proofs.BuiltLemmas.{built_count}
use Rattle.feature_graph.proofs.SetLemmas.{tells_default}
use Rattle.feature_graph.proofs.graph.FeatureGraph.is_default.Goals as goal

pub is_default-requires : goal.is_default-requires
is_default-requires c =
    let count = built_count c.args.self.now.graph.now c.args.self.now.built.now c.args.self.now.is_built in
    let below : c.in-Some.node < length (nodes c.args.self.now.graph.now) = c.in-Some.ensures.within in
    omega (arith, below, count)

pub returns : goal.returns
returns c =
    let t = c.args.self.now.graph.now in
    tells_default t (id_of c.args.id) c.in-Some.node c.is_default.result c.in-Some.ensures.named (c.is_default.ensures.meaning t c.args.self.now.is_built)
