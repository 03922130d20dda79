use Rattle.guppy_packages.specs.declared.direction.DependencyDirection.TheVariants.{Forward}
use Rattle.feature_labels.specs.Names.{id_of}
use Rattle.feature_links.specs.Values.{edge_facts}
use Rattle.feature_graph.proofs.VerifyLemmas.{edge_within, first_named, found_below}
use Rattle.feature_graph.proofs.graph.FeatureGraph.absent_link.Goals as goal

pub edge-from-requires : goal.edge-from-requires
edge-from-requires c = found_below c.args.self.now.built.now.edges c.args.number c.requires

pub id-requires-clause-built : goal.id-requires-clause-built
id-requires-clause-built c = c.args.self.now.is_built

pub id-requires-clause-node : goal.id-requires-clause-node
id-requires-clause-node c =
    let b = c.args.self.now.built.now in
    (edge_within b (c.content_of_graph.ensures.ends b Forward c.args.self.now.is_built) c.args.number (c.edge-from.result.0, c.edge-from.result.1, edge_facts c.edge-from.result.2.now) c.edge-from.ensures).0

pub id-requires-2-clause-built : goal.id-requires-2-clause-built
id-requires-2-clause-built c = c.args.self.now.is_built

pub id-requires-2-clause-node : goal.id-requires-2-clause-node
id-requires-2-clause-node c =
    let b = c.args.self.now.built.now in
    (edge_within b (c.content_of_graph.ensures.ends b Forward c.args.self.now.is_built) c.args.number (c.edge-from.result.0, c.edge-from.result.1, edge_facts c.edge-from.result.2.now) c.edge-from.ensures).1

pub returns : goal.returns
returns c =
    first_named c.args.self.now.graph.now c.args.self.now.built.now.edges c.args.number (c.edge-from.result.0, c.edge-from.result.1, edge_facts c.edge-from.result.2.now)
    (id_of c.id.result) (id_of c.id-2.result) c.requires c.edge-from.ensures c.id.ensures c.id-2.ensures
