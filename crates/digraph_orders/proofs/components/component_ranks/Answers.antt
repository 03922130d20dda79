use Rattle.digraph_orders.proofs.ComponentLemmas.{levelled, ranked}
use Rattle.digraph_orders.proofs.components.component_ranks.Goals as goal

pub returns-clause-ranking : goal.returns-clause-ranking
returns-clause-ranking c =
    let w = c.in_ok-walk.walk in
    ranked c.args.graph.now w.marks.items _
    (levelled c.args.graph.now w.marks.items w.pending.items w.bounds.items w.opened.items w.left.items w.level c.facts.ensures
    c.in_ok-walk.ensures.walk.0 c.in_ok-walk.ensures.whole)
    c.in_ok-ranks.ensures.ranked
