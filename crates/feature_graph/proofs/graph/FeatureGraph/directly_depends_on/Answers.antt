use Rattle.std.proofs.Common.{subst}
use Rattle.std.specs.Prelude.{IfNone, IfSome}
use Rattle.digraphs.specs.Graph.{IsEdgeAt}
use Rattle.digraphs.specs.Paths.{HasEdge}
use Rattle.feature_labels.specs.Names.{id_of}
use Rattle.feature_graph.specs.Ordered.{edges_of}
use Rattle.feature_graph.specs.Views.{graph_of, tables_of_graph}
use Rattle.feature_graph.proofs.TiedLemmas.{edge_told, tells_tied}
use Rattle.feature_graph.proofs.graph.FeatureGraph.directly_depends_on.Goals as goal

pub returns-clause-told : goal.returns-clause-told
returns-clause-told c =
    let g = c.args.self.now in
    let es = edges_of (graph_of g) in
    let m = c.in_ok-first.first in
    let n = c.in_ok-first.second in
    let found = c.edge_between.result in
    let some : IfSome found (IsEdgeAt es m n) = subst (λ z. IfSome found (IsEdgeAt z m n)) c.digraph.ensures.edges c.edge_between.ensures.some in
    let none : IfNone found (¬ HasEdge es m n) = subst (λ z. IfNone found (¬ HasEdge z m n)) c.digraph.ensures.edges c.edge_between.ensures.none in
    tells_tied (HasEdge es) (tables_of_graph g) (id_of c.args.a) (id_of c.args.b) m n c.is_some.result c.in_ok-first.ensures.nodes
    (edge_told es m n found c.is_some.result c.is_some.ensures some none)
