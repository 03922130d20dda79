use Rattle.std.proofs.Common.{◌<◌, ℕ, All, sym, subst}
use Rattle.guppy_support.specs.Views.{in_order}
use Rattle.guppy_support.proofs.LinkSteps.{members_below, first_below}
use Rattle.guppy_support.proofs.links_in_order.LinksInOrder.new.Goals as goal

pub invariant_of-result : goal.invariant_of-result
invariant_of-result c =
    let n : ℕ = c.args.digraph.now.nodes in
    let set = c.args.members.now in
    let list = c.args.order.now.list in
    let below : All (λ v. v < n) (in_order c.args.reading list set) = subst (λ (m : ℕ). All (λ v. v < m) (in_order c.args.reading list set)) c.requires.size (members_below c.args.reading list set) in
    let parts = first_below n c.new-nodes.result c.next-start.new.self c.next-start.result (subst (All (λ v. v < n)) (sym c.new-nodes.ensures) below) c.next-start.ensures.steps in
    (c.requires.size, parts.0, parts.1)
