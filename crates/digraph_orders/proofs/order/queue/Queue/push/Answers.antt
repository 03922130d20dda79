use Rattle.std.proofs.Common.{◌<◌, true, List, Bool, length, set, subst}
use Rattle.digraphs.specs.Bits.{members}
use Rattle.digraph_orders.specs.inner.Queues.{Joins}
use Rattle.digraph_orders.proofs.QueueLemmas.{joins}
use Rattle.digraph_orders.proofs.order.queue.Queue.push.Goals as goal

pub returns-clause-joins : goal.returns-clause-joins
returns-clause-joins c =
    let numbers = c.self.inside.numbers in
    let inside : c.args.number < length numbers = rw c.self.view_is c.requires in
    rw c.insert.ensures
    (subst (λ (old : List Bool). Joins (members old) c.args.number (members (set numbers c.args.number true))) c.self.view_is (joins numbers c.args.number inside))
