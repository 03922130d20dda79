use Rattle.std.proofs.Common.{◌≡◌, ◌∙◌, length, sym, ap, subst, arith}
use Rattle.digraph_orders.specs.Orders.{ListsEach}
use Rattle.guppy_support.specs.Views.{in_order}
use Rattle.guppy_support.proofs.Readings.{left_count, left_start}
use Rattle.guppy_support.proofs.in_order.InOrder.new.Goals as goal

pub invariant_of-result : goal.invariant_of-result
invariant_of-result c =
    let list = c.list.result.now in
    let each : ListsEach (length list) list = subst (λ xs. ListsEach (length xs) xs) (sym c.list.ensures) c.facts.ensures.each in
    let long : length c.args.members.now ≡ length list = c.requires ∙ sym (ap length c.list.ensures) in
    (omega arith, λ i h. omega (arith, each.below i h, long), c.count.ensures ∙ left_count c.args.reading list c.args.members.now each long)

pub returns : goal.returns
returns c = left_start c.args.reading c.list.result.now c.args.members.now ∙ ap (λ xs. in_order c.args.reading xs c.args.members.now) c.list.ensures
