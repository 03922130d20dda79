use Rattle.std.proofs.Common.{◌≡◌, ◌∙◌, ap, sym, length, arith}
use Rattle.std.specs.Prelude.{slice_get}
use Rattle.feature_core.specs.Built.{built_edges}
use Rattle.feature_edges.specs.feature_links.Values.{edge_facts}
use Rattle.feature_edges.proofs.BuildLemmas.{built_at, built_long}
use Rattle.feature_core.proofs.data.FeatureGraphData.edge.Goals as goal

pub get-requires : goal.get-requires
get-requires c =
    let d = c.self.inside in
    let count : length (built_edges d.digraph.edges d.edges) ≡ length c.args.self.now.edges = ap (λ b. length b.edges) c.self.view_is in
    omega (arith, c.requires, count, built_long d.digraph.edges d.edges c.self.invariant.1, c.self.invariant.1)

pub returns : goal.returns
returns c =
    let d = c.self.inside in
    sym (ap (λ b. slice_get b.edges c.args.number) c.self.view_is) ∙ built_at d.digraph.edges d.edges c.args.number c.edge-ends.result (edge_facts c.get.result.now) c.edge-ends.ensures c.get.ensures
