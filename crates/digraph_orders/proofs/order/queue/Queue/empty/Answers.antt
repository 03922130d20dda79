use Rattle.std.proofs.Common.{◌+◌, ◌/◌, refl}
use Rattle.digraph_orders.proofs.QueueLemmas.{above_empty}
use Rattle.digraph_orders.proofs.order.queue.Queue.empty.Goals as goal

pub invariant_of-result : goal.invariant_of-result
invariant_of-result c =
    let words = c.args.bound / 64 + 1 in
    rw (c.in_ok-numbers.ensures, c.in_ok-words.ensures, c.in_ok-blocks.ensures) (above_empty c.args.bound words refl, above_empty words (words / 64 + 1) refl)
