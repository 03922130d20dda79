use Rattle.std.proofs.Common.{ℕ, ◌∙◌, ◌<◌, length, subst, sym}
use Rattle.std.specs.Prelude.{All}
use Rattle.std.proofs.lemmas.List.Elements.{All-same}
use Rattle.guppy_support.specs.Views.{in_order}
use Rattle.guppy_packages.proofs.PackageOrders.{listed_below, order_long}
use Rattle.guppy_packages.proofs.package_set.PackageSet.packages.Goals as goal

pub new-requires : goal.new-requires
new-requires c = c.self.invariant ∙ sym (order_long c.self.inside.graph.now c.order.result.now c.order.ensures)

pub invariant_of-result : goal.invariant_of-result
invariant_of-result c =
    let listed = in_order c.reading.result c.order.result.now.list c.self.inside.members in
    let below = subst (λ (n : ℕ). All (λ p. p < n) listed) c.self.invariant (listed_below c.reading.result c.order.result.now.list c.self.inside.members) in
    All-same (λ p. p < length c.self.inside.graph.now.packages) c.new.result listed c.new.ensures below
