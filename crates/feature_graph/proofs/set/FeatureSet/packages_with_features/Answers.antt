use Rattle.std.proofs.Common.{◌≡◌, ◌<◌, ◌∙◌, length, ap, subst}
use Rattle.std.proofs.lemmas.List.Elements.{All-same}
use Rattle.guppy_packages.specs.PackageOrder.{digraph_of_packages}
use Rattle.digraph_orders.specs.Sequences.{IsOrderOf}
use Rattle.feature_graph.specs.PackageViews.{as_read}
use Rattle.feature_graph.proofs.PackageViewLemmas.{order_within}
use Rattle.feature_graph.proofs.set.FeatureSet.packages_with_features.Goals as goal

pub invariant_of-result : goal.invariant_of-result
invariant_of-result c =
    let t = c.args.self.now.graph.tables in
    let o = c.order-order.result.now in
    let same : c.package_graph.result.now ≡ t = c.package_graph.ensures ∙ ap (λ s. s.graph.tables) c.self.view_is in
    let order = subst (λ u. IsOrderOf (digraph_of_packages u) o) same c.order-order.ensures in
    let is : c.new.result ≡ as_read c.args.direction o.list = c.new.ensures ∙ ap (as_read c.args.direction) c.list.ensures in
    All-same (λ p. p < length t.packages) c.new.result (as_read c.args.direction o.list) is (order_within t o c.args.direction c.facts.ensures order)
