use Rattle.std.proofs.Common.{◌∙◌, sym}
use Rattle.feature_graph.specs.Views.{tables_of_graph, built_of}
use Rattle.feature_graph.proofs.BuiltLemmas.{built_count}
use Rattle.feature_graph.proofs.set.FeatureSet.edges_in_order.Goals as goal

pub new-requires-clause-size : goal.new-requires-clause-size
new-requires-clause-size c =
    let g = c.self.inside.graph in
    c.self.invariant ∙ sym (built_count (tables_of_graph g) (built_of g) g.is_built) ∙ sym c.digraph.ensures.nodes
