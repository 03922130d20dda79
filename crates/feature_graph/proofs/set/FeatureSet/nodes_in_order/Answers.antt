use Rattle.std.proofs.Common.{◌∙◌, sym}
use Rattle.feature_graph.specs.Views.{tables_of_graph, built_of}
use Rattle.feature_graph.proofs.OrderedLemmas.{order_long}
use Rattle.feature_graph.proofs.set.FeatureSet.nodes_in_order.Goals as goal

pub new-requires : goal.new-requires
new-requires c =
    let g = c.self.inside.graph in
    c.self.invariant ∙ sym (order_long (tables_of_graph g) (built_of g) c.order.result.now g.is_built c.order.ensures)
