use Rattle.std.proofs.Common.{◌≡◌, ◌∙◌, ap, sym, subst}
use Rattle.digraph_orders.specs.Orders.{ListsEach}
use Rattle.digraphs.specs.Paths.{OnCycle}
use Rattle.digraph_orders.specs.Sequences.{component_of}
use Rattle.guppy_support.specs.Cycles.{has_cycle}
use Rattle.guppy_support.proofs.CycleLemmas.{cyclic_by_cycles}
use Rattle.guppy_support.proofs.cycles.is_cyclic.Goals as goal

pub returns-then-a-b : goal.returns-then-a-b
returns-then-a-b c =
    let reach = c.is_same.ensures.reach c.args.digraph.now c.requires.order in
    let law = c.cycles_are_components.ensures c.args.digraph.now.edges c.args.a c.args.b c.if-a-b.true in
    (λ same. law.0 (reach.0 same), λ cycle. reach.1 (law.1 cycle))

pub returns-else-a-b : goal.returns-else-a-b
returns-else-a-b c =
    let g = c.args.digraph.now in
    let o = c.args.order.now in
    let each : ListsEach g.nodes o.list = subst (λ n. ListsEach n o.list) c.requires.order.order.long c.facts.ensures.each in
    let law = cyclic_by_cycles c.cycles_are_components.ensures g o c.facts-2.ensures c.requires.order each c.args.a c.requires.a in
    let is : c.is_cyclic_component.result ≡ has_cycle g.edges o (component_of o c.args.a) = c.is_cyclic_component.ensures ∙ ap (has_cycle g.edges o) c.component.ensures in
    (λ t. subst (OnCycle g.edges c.args.a) c.if-a-b.false (law.0 (sym is ∙ t)), λ cycle. is ∙ law.1 (subst (OnCycle g.edges c.args.a) (sym c.if-a-b.false) cycle))
