use Rattle.std.proofs.Common.{◌<◌, length, arith}
use Rattle.guppy_packages.specs.declared.direction.DependencyDirection.TheVariants.{Forward}
use Rattle.feature_links.specs.Values.{edge_facts}
use Rattle.feature_graph.proofs.BuiltLemmas.{built_count}
use Rattle.feature_graph.proofs.Offered.{link_ends}
use Rattle.feature_graph.proofs.set.links.edge_at.Goals as goal

pub id-requires : goal.id-requires
id-requires c =
    let t = c.args.graph.graph.now in
    let b = c.args.graph.built.now in
    let count = built_count t b c.args.graph.is_built in
    let within = link_ends b (c.content_of_graph.ensures.ends b Forward c.args.graph.is_built) c.args.number (c.edge-from.result.0, c.edge-from.result.1, edge_facts c.edge-from.result.2.now) c.edge-from.ensures in
    let below : c.edge-from.result.0 < length b.packages = within.0 in
    omega (arith, below, count)

pub id-requires-2 : goal.id-requires-2
id-requires-2 c =
    let t = c.args.graph.graph.now in
    let b = c.args.graph.built.now in
    let count = built_count t b c.args.graph.is_built in
    let within = link_ends b (c.content_of_graph.ensures.ends b Forward c.args.graph.is_built) c.args.number (c.edge-from.result.0, c.edge-from.result.1, edge_facts c.edge-from.result.2.now) c.edge-from.ensures in
    let below : c.edge-from.result.1 < length b.packages = within.1 in
    omega (arith, below, count)
