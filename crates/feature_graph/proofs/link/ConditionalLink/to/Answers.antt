use Rattle.std.proofs.Common.{◌<◌, length, arith}
use Rattle.guppy_packages.specs.declared.direction.DependencyDirection.TheVariants.{Forward}
use Rattle.feature_links.specs.Values.{edge_facts}
use Rattle.feature_graph.proofs.BuiltLemmas.{built_count}
use Rattle.feature_graph.proofs.Offered.{link_ends}
use Rattle.feature_graph.proofs.link.ConditionalLink.to.Goals as goal

pub feature_at-requires : goal.feature_at-requires
feature_at-requires c =
    let t = c.args.self.now.graph.graph.now in
    let b = c.args.self.now.graph.built.now in
    let count = built_count t b c.args.self.now.graph.is_built in
    let within = link_ends b (c.content_of_graph.ensures.ends b Forward c.args.self.now.graph.is_built) c.args.self.now.edge (c.edge-to.result.0, c.edge-to.result.1, edge_facts c.edge-to.result.2.now) c.edge-to.ensures in
    let below : c.edge-to.result.1 < length b.packages = within.1 in
    omega (arith, below, count)
