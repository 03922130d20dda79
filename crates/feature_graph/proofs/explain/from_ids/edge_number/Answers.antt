use Rattle.digraphs.specs.Graph.{IsEdgeAt}
use Rattle.digraphs.specs.Paths.{HasEdge}
use Rattle.feature_labels.specs.Names.{id_of}
use Rattle.feature_graph.specs.Views.{graph_of}
use Rattle.std.proofs.Common.{refl, subst}
use Rattle.std.specs.Prelude.{IfSome, IfNone}
use Rattle.feature_graph.proofs.NumberedLemmas.{edge_tells}
use Rattle.feature_graph.proofs.explain.from_ids.edge_number.Goals as goal

pub returns : goal.returns
returns c =
    let g = graph_of c.args.graph in
    let u = c.in_ok-first.first in
    let w = c.in_ok-second.second in
    let found = c.edge_between.result in
    edge_tells g
    (λ j k x y at there from to. c.edges_say.ensures.once g.built j k x y c.args.graph.is_built at there from to)
    (λ name m n a b. c.link_names_offer.ensures.nodes name m n a b)
    u w found (id_of c.args.from) (id_of c.args.to)
    ((c.in_ok-first.ensures.named u).0 refl) ((c.in_ok-second.ensures.named w).0 refl)
    (subst (λ es. IfSome found (IsEdgeAt es u w)) c.digraph.ensures.edges c.edge_between.ensures.some)
    (subst (λ es. IfNone found (¬ HasEdge es u w)) c.digraph.ensures.edges c.edge_between.ensures.none)
