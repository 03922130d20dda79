use Rattle.std.proofs.Common.{rules, length, arith, ap, ◌∙◌}
use Rattle.std.proofs.lemmas.List.{get_or-replicate, length-replicate}
use Rattle.digraph_orders.proofs.FirstLemmas.{holding_none}
use Rattle.digraph_orders.proofs.DegreeLemmas.{counted_none, counted_all}
use Rattle.digraph_orders.proofs.order.counts.count_edges.Goals as goal

pub loop-number-init : goal.loop-number-init
loop-number-init c =
    let h = c.in_ok-held.ensures in
    let n = c.node_count.result in
    let long_held = ap length h ∙ length-replicate n 0 in
    record {
      counted = counted_none c.args.graph.now c.args.groups.now.several c.args.ranks.now c.in_ok-outside.outside.items c.in_ok-outside.ensures;
      holding = holding_none c.args.graph.now c.args.ranks.now c.in_ok-held.held.items (omega (arith, long_held, c.node_count.ensures))
          (λ v l. rw h (get_or-replicate n v 0 0 (omega (arith, l, long_held))));
    }

pub returns-clause-entering : goal.returns-clause-entering
returns-clause-entering c =
    let i = c.loop-number.invariant in
    counted_all c.args.graph.now c.args.ranks.now c.requires.setup c.args.groups.now.several c.requires.groups.alone c.loop-number.outside.items
    (search rules)
