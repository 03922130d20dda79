use Rattle.feature_edges.specs.feature_links.Values.{edge_facts}
use Rattle.feature_core.proofs.DirectedLemmas.{tells_of}
use Rattle.feature_core.proofs.directed_edges.table_edge.Goals as goal

pub returns : goal.returns
returns c =
    let g = c.args.digraph.now in
    tells_of c.args.weak.now.entries c.args.direction g.nodes g.edges c.args.edges.now c.args.number c.edge-ends.result (edge_facts c.get-edge.result.now) _ c.edge-ends.ensures c.get-edge.ensures c.near_end.ensures c.far_end.ensures c.offers_of.ensures c.gate_or_zero.ensures
