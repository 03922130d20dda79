use Rattle.std.proofs.Common.{refl}
use Rattle.std.proofs.lemmas.Option.{slice_get_within}
use Rattle.guppy_packages.specs.declared.direction.DependencyDirection.TheVariants.{Forward}
use Rattle.feature_labels.specs.Names.{id_of}
use Rattle.feature_graph.specs.Views.{graph_of}
use Rattle.feature_graph.proofs.NumberedLemmas.{edge_named, found_offer, no_half}
use Rattle.feature_graph.proofs.explain.from_ids.offer_number.Goals as goal

pub edge-requires : goal.edge-requires
edge-requires c =
    let g = graph_of c.args.graph in
    let at = edge_named g c.in_ok-edge.edge (id_of c.args.from) (id_of c.args.to) ((c.in_ok-edge.ensures c.in_ok-edge.edge).0 refl) in
    slice_get_within g.built.edges c.in_ok-edge.edge at.0 at.1

pub returns-in_err-half : goal.returns-in_err-half
returns-in_err-half c e h =
    no_half (graph_of c.args.graph) c.from_residual-in_err-half.result c.half_over.result c.in_ok-edge.edge _ (id_of c.args.from, id_of c.args.to, c.args.declarations) c.from_residual-in_err-half.ensures c.in_err-half.was c.edge.ensures c.half_over.ensures c.in_ok-edge.ensures e h

pub returns : goal.returns
returns c e h =
    found_offer (graph_of c.args.graph)
    (λ d i b j one two name. c.link_names_offer.ensures.offers (graph_of c.args.graph).built Forward d i b j c.args.graph.is_built one two name)
    c.in_ok-edge.edge c.in_ok-half.half _ (id_of c.args.from, id_of c.args.to, c.args.declarations) c.edge.ensures c.in_ok-half.ensures c.in_ok-edge.ensures e h
