use Rattle.std.proofs.Common.{◌≡◌, length, arith, refl}
use Rattle.feature_core.specs.Nodes.{nodes}
use Rattle.feature_graph.specs.Views.{tables_of_graph}
use Rattle.feature_graph.proofs.SameFeatures.{below_all}
use Rattle.feature_graph.proofs.graph.FeatureGraph.has_same_features.Goals as goal

pub returns : goal.returns
returns c =
    let t = tables_of_graph c.args.self.now in
    let u = tables_of_graph c.args.other.now in
    let counts = c.if-count-feature_count.false in
    let long : length (nodes t) ≡ length (nodes u) = omega (arith, counts, c.feature_count-count.ensures, c.feature_count.ensures) in (
      λ h. below_all (nodes t) (nodes u) c.nodes.node long (omega (arith, c.feature_count-count.ensures, c.nodes-test.false)) c.nodes.invariant,
      λ h. refl,
    )
