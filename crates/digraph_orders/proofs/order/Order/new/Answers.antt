use Rattle.std.proofs.Common.{rules, ◌≡◌, ◌<◌, ◌-◌, ◌∙◌, ℕ, length, get_or, arith}
use Rattle.digraph_orders.specs.inner.Numbering.{AreNumbered, AreAllNumbered, AreGrouped, ArePlaces}
use Rattle.digraph_orders.proofs.OrderLemmas.{order_apart}
use Rattle.digraph_orders.proofs.SequenceLemmas.{numbers_are, rises_along, order_of, grouped, sequence_of}
use Rattle.digraph_orders.proofs.order.Order.new.Goals as goal

pub invariant_of-result : goal.invariant_of-result
invariant_of-result c =
    let g = c.args.graph.now in
    let list = c.in_ok-list.list.items in
    let ranks = c.in_ok-ranked.ranked.ranks.items in
    let components = c.in_ok-components.components.items in
    let begins = c.in_ok-components.begins.items in
    let count = c.len-count.result - 1 in
    let all_begins : c.len-count.result ≡ length begins = search rules in
    let n : AreAllNumbered list ranks components begins = rw c.deref-2.ensures.value at c.in_ok-components.ensures.numbers in
    let a : AreNumbered list ranks n.numbers count = rw all_begins n.are in
    let all : length n.numbers ≡ g.nodes = n.long ∙ c.in_ok-list.ensures.long in
    let long : length components ≡ g.nodes = (rw c.deref-2.ensures.value at c.in_ok-components.ensures.long) ∙ c.in_ok-list.ensures.long in
    let put : (i : ℕ) → i < g.nodes → get_or components (get_or list i 0) 0 ≡ get_or n.numbers i 0 = λ i h. n.put i (omega (arith, h, c.in_ok-list.ensures.long)) in
    let parts : AreGrouped count list components begins =
    grouped count list components n.numbers begins
    (numbers_are g c.facts.ensures ranks c.in_ok-ranked.ensures.ranking list c.in_ok-list.ensures n.numbers count a all components long put)
    (rises_along g c.facts.ensures ranks c.in_ok-ranked.ensures.ranking list c.in_ok-list.ensures n.numbers count a all components long put)
    (omega (arith, all_begins, c.in_ok-components.ensures.some)) (λ v h. n.begun v (omega (arith, h, all_begins, c.in_ok-components.ensures.some)))
    in
    let is = order_of g c.facts.ensures ranks c.in_ok-ranked.ensures.ranking list c.in_ok-list.ensures n.numbers count a all components long put in
    let places : ArePlaces list c.in_ok-components.places.items = rw c.deref-2.ensures.value at c.in_ok-components.ensures.places in
    (sequence_of g (record { list = list; component = components; count = count }) is, parts, places)

pub returns : goal.returns
returns c =
    let g = c.args.graph.now in
    let list = c.in_ok-list.list.items in
    let ranks = c.in_ok-ranked.ranked.ranks.items in
    let components = c.in_ok-components.components.items in
    let begins = c.in_ok-components.begins.items in
    let count = c.len-count.result - 1 in
    let all_begins : c.len-count.result ≡ length begins = search rules in
    let n : AreAllNumbered list ranks components begins = rw c.deref-2.ensures.value at c.in_ok-components.ensures.numbers in
    let a : AreNumbered list ranks n.numbers count = rw all_begins n.are in
    let all : length n.numbers ≡ g.nodes = n.long ∙ c.in_ok-list.ensures.long in
    let long : length components ≡ g.nodes = (rw c.deref-2.ensures.value at c.in_ok-components.ensures.long) ∙ c.in_ok-list.ensures.long in
    let put : (i : ℕ) → i < g.nodes → get_or components (get_or list i 0) 0 ≡ get_or n.numbers i 0 = λ i h. n.put i (omega (arith, h, c.in_ok-list.ensures.long)) in
    order_of g c.facts.ensures ranks c.in_ok-ranked.ensures.ranking list c.in_ok-list.ensures n.numbers count a all components long put

pub numbered-requires-clause-apart : goal.numbered-requires-clause-apart
numbered-requires-clause-apart c = rw c.deref-2.ensures.value (order_apart c.in_ok-list.ensures)
