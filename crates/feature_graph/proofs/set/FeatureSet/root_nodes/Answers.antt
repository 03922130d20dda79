use Rattle.std.proofs.Common.{◌∙◌, sym}
use Rattle.feature_graph.specs.Views.{tables_of_graph, built_of}
use Rattle.feature_graph.proofs.BuiltLemmas.{built_count}
use Rattle.feature_graph.proofs.set.FeatureSet.root_nodes.Goals as goal

pub roots-requires-clause-size : goal.roots-requires-clause-size
roots-requires-clause-size c =
    let g = c.self.inside.graph in
    c.self.invariant ∙ sym (built_count (tables_of_graph g) (built_of g) g.is_built) ∙ sym c.digraph.ensures.nodes
