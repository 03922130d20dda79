use Rattle.std.proofs.Common.{arith}
use Rattle.feature_graph.specs.Views.{tables_of_graph, built_of}
use Rattle.feature_graph.proofs.BuiltLemmas.{built_count}
use Rattle.feature_graph.proofs.graph.FeatureGraph.depends_on.Goals as goal

pub depends_on-requires-clause-a : goal.depends_on-requires-clause-a
depends_on-requires-clause-a c =
    let g = c.args.self.now in
    omega (arith, c.in_ok-first.ensures.first, c.digraph.ensures.nodes, built_count (tables_of_graph g) (built_of g) g.is_built)

pub depends_on-requires-clause-b : goal.depends_on-requires-clause-b
depends_on-requires-clause-b c =
    let g = c.args.self.now in
    omega (arith, c.in_ok-first.ensures.second, c.digraph.ensures.nodes, built_count (tables_of_graph g) (built_of g) g.is_built)
