use Rattle.std.proofs.Common.{◌-◌, length, arith}
use Rattle.digraph_orders.proofs.PathLemmas.{join, one_edge}
use Rattle.digraph_orders.proofs.ComponentLemmas.{all_to_top}
use Rattle.digraph_orders.proofs.components.walk.Walk.step.Goals as goal

pub enter-requires-clause-led : goal.enter-requires-clause-led
enter-requires-clause-led c =
    λ j h.
    let s = c.skip.new.self in
    join
    (all_to_top c.args.graph.now s.marks.items s.pending.items s.bounds.items s.opened.items s.left.items s.level c.skip.ensures.walk.0
    c.last-top.result (length s.opened.items - 1) (rw c.skip.ensures.opened (omega (arith, c.requires.opened))) (rw c.skip.ensures.opened c.last-top.ensures.value) j h)
    (one_edge c.next-node.ensures.edge)

pub returns-then-index-eq0-2-clause-kept : goal.returns-then-index-eq0-2-clause-kept
returns-then-index-eq0-2-clause-kept c = rw c.skip.ensures.kept at c.enter.ensures.kept
