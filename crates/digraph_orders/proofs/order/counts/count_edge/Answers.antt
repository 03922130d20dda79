use Rattle.std.proofs.Common.{rules, ◌≡◌, ◌∙◌, get_or, arith, sym, inl, inr}
use Rattle.std.proofs.lemmas.Bool.{cases_eq}
use Rattle.std.proofs.lemmas.List.{get_or_read}
use Rattle.digraph_orders.proofs.DegreeLemmas.{loop_positive, counted_loop, counted_lone, counted_inside, counted_room, counted_more}
use Rattle.digraph_orders.proofs.FirstLemmas.{room_held, holding_add, holding_skip}
use Rattle.digraph_orders.proofs.GroupLemmas.{alone_only}
use Rattle.digraph_orders.proofs.order.counts.count_edge.Goals as goal

pub leave_loop-requires-clause-positive : goal.leave_loop-requires-clause-positive
leave_loop-requires-clause-positive c =
    λ is.
    loop_positive c.args.graph.now c.args.ranks.now c.requires.setup c.args.groups.now.several c.requires.groups.alone c.args.number _ _ _ c.edge_at-edge.ensures
    c.args.outside.now.items c.requires.counted (c.is_alone.ensures.off c.if-is_alone.true) is

pub returns-then-is_alone-clause-counted : goal.returns-then-is_alone-clause-counted
returns-then-is_alone-clause-counted c =
    let e = c.edge_at-edge.ensures in
    let off = c.is_alone.ensures.off c.if-is_alone.true in
    elim (cases_eq c.edge_at-edge.result.from c.edge_at-edge.result.to) [
      | inl is ↦
          rw (c.leave_loop.ensures.is is)
          (counted_loop c.args.graph.now c.args.ranks.now c.requires.setup c.args.groups.now.several c.requires.groups.alone c.args.number _ _ _ e c.args.outside.now.items c.requires.counted off is)
      | inr ne ↦
          rw (c.leave_loop.ensures.other ne)
          (counted_lone c.args.graph.now c.args.ranks.now c.requires.setup c.args.groups.now.several c.requires.groups.alone c.args.number _ _ _ e c.args.outside.now.items c.requires.counted off ne)
    ]

pub returns-then-is_alone-clause-holding : goal.returns-then-is_alone-clause-holding
returns-then-is_alone-clause-holding c =
    let e = c.edge_at-edge.ensures in
    let to = c.edge_at-edge.result.to in
    let alone = c.is_alone.ensures.alone c.if-is_alone.true in
    let long = c.requires.setup.ranking.long in
    holding_skip c.args.graph.now c.args.ranks.now c.requires.setup c.args.number _ _ _ e c.args.held.now.items c.requires.holding
    (elim (cases_eq c.edge_at-edge.result.from to) [
      | inl is ↦ inr (inl is)
      | inr ne ↦ inl (λ q. ne (alone_only c.args.ranks.now to (omega (arith, e.node_to, long)) alone c.edge_at-edge.result.from (omega (arith, e.node_from, long)) (q ∙ alone.rank)))
    ])

pub overflow_add-index_mut : goal.overflow_add-index_mut
overflow_add-index_mut c =
    let e = c.edge_at-edge.ensures in
    let rank = get_or c.args.ranks.now c.edge_at-edge.result.to 0 in
    let read = get_or_read c.args.outside.now.items rank c.index_mut.result.now (omega (arith, c.requires.setup.small _ e.node_to, c.requires.counted.long)) c.index_mut.ensures.value 0 in
    omega (arith, read, c.bounds.ensures.edges, counted_room c.args.graph.now c.args.ranks.now c.requires.setup c.args.groups.now.several c.requires.groups.alone c.args.number _ _ _ c.edge_at-edge.ensures c.args.outside.now.items c.requires.counted (c.is_alone.ensures.on c.if-is_alone.false) c.if-ranks-edge.true)

pub returns-then-ranks-edge-clause-counted : goal.returns-then-ranks-edge-clause-counted
returns-then-ranks-edge-clause-counted c =
    let e = c.edge_at-edge.ensures in
    let rank = get_or c.args.ranks.now c.edge_at-edge.result.to 0 in
    let read = get_or_read c.args.outside.now.items rank c.index_mut.result.now (omega (arith, c.requires.setup.small _ e.node_to, c.requires.counted.long)) c.index_mut.ensures.value 0 in
    rw (sym read) at (counted_more c.args.graph.now c.args.ranks.now c.requires.setup c.args.groups.now.several c.requires.groups.alone c.args.number _ _ _ c.edge_at-edge.ensures c.args.outside.now.items c.requires.counted (c.is_alone.ensures.on c.if-is_alone.false) c.if-ranks-edge.true)

pub returns-then-ranks-edge-clause-holding : goal.returns-then-ranks-edge-clause-holding
returns-then-ranks-edge-clause-holding c =
    holding_skip c.args.graph.now c.args.ranks.now c.requires.setup c.args.number _ _ _ c.edge_at-edge.ensures c.args.held.now.items c.requires.holding (inl c.if-ranks-edge.true)

pub returns-then-not-edge-clause-counted : goal.returns-then-not-edge-clause-counted
returns-then-not-edge-clause-counted c =
    counted_inside c.args.graph.now c.args.ranks.now c.requires.setup c.args.groups.now.several c.requires.groups.alone c.args.number _ _ _ c.edge_at-edge.ensures c.args.outside.now.items c.requires.counted (c.is_alone.ensures.on c.if-is_alone.false) (search rules)

pub returns-then-edge-clause-counted : goal.returns-then-edge-clause-counted
returns-then-edge-clause-counted c =
    counted_inside c.args.graph.now c.args.ranks.now c.requires.setup c.args.groups.now.several c.requires.groups.alone c.args.number _ _ _ c.edge_at-edge.ensures c.args.outside.now.items c.requires.counted (c.is_alone.ensures.on c.if-is_alone.false) (search rules)

pub returns-then-edge-clause-holding : goal.returns-then-edge-clause-holding
returns-then-edge-clause-holding c =
    let self : c.edge_at-edge.result.from ≡ c.edge_at-edge.result.to = search rules in
    holding_skip c.args.graph.now c.args.ranks.now c.requires.setup c.args.number _ _ _ c.edge_at-edge.ensures c.args.held.now.items c.requires.holding (inr (inl self))

pub overflow_add-index_mut-2 : goal.overflow_add-index_mut-2
overflow_add-index_mut-2 c =
    let e = c.edge_at-edge.ensures in
    let read = get_or_read c.args.held.now.items c.edge_at-edge.result.to c.index_mut-2.result.now (omega (arith, e.node_to, c.requires.holding.long)) c.index_mut-2.ensures.value 0 in
    let r = room_held c.args.graph.now c.args.ranks.now c.requires.setup c.args.number _ _ _ e c.args.held.now.items c.requires.holding in
    omega (arith, read, r, c.bounds.ensures.edges)

pub returns-clause-counted : goal.returns-clause-counted
returns-clause-counted c =
    counted_inside c.args.graph.now c.args.ranks.now c.requires.setup c.args.groups.now.several c.requires.groups.alone c.args.number _ _ _ c.edge_at-edge.ensures c.args.outside.now.items c.requires.counted (c.is_alone.ensures.on c.if-is_alone.false) (search rules)

pub returns-clause-holding : goal.returns-clause-holding
returns-clause-holding c =
    let e = c.edge_at-edge.ensures in
    let read = get_or_read c.args.held.now.items c.edge_at-edge.result.to c.index_mut-2.result.now (omega (arith, e.node_to, c.requires.holding.long)) c.index_mut-2.ensures.value 0 in
    rw (sym read) at (holding_add c.args.graph.now c.args.ranks.now c.requires.setup c.args.number _ _ _ e c.args.held.now.items c.requires.holding (search rules) (search rules) (search rules))
