use Rattle.std.proofs.Common.{get_or, arith, rules, inl, inr}
use Rattle.digraphs.specs.Bits.{members}
use Rattle.digraph_orders.specs.inner.Plans.{rest_of}
use Rattle.digraph_orders.proofs.AtLemmas.{idle_next}
use Rattle.digraph_orders.proofs.GroupLemmas.{alone_only}
use Rattle.digraph_orders.proofs.order.listing.Plan.pass.Goals.{else-edge-via-then-edge+else-edge-node, else-edge-via-else-edge}
use Rattle.digraph_orders.proofs.order.listing.Plan.pass.Goals as goal

pub returns-clause-at : goal.returns-clause-at
returns-clause-at c =
    idle_next c.args.graph.now c.args.ranks.now c.requires.setup c.args.node c.args.place c.args.self.now.listed.items c.args.self.now.done c.args.self.now.outside.items c.args.self.now.held.items (members c.args.self.now.starts) (members c.args.self.now.ready) (rest_of c.args.ranks.now (get_or c.args.ranks.now c.args.node 0) c.args.self.now) c.requires.at c.out_edge-edge.result.to c.out_edge-edge.result.non_dev c.out_edge-edge.ensures (search rules)
    (elim c.else-edge.branch [
      | else-edge-via-then-edge+else-edge-node w ↦ inl w.if-edge-node.false
      | else-edge-via-else-edge w ↦ inr w.if-edge.false
    ])

pub returns-then-edge-node-clause-ready : goal.returns-then-edge-node-clause-ready
returns-then-edge-node-clause-ready c =
    λ off.
    let e = c.out_edge-edge.ensures in
    let alone = c.requires.groups.alone c.args.node c.requires.node off in
    absurd (c.if-edge-node.true (alone_only c.args.ranks.now c.args.node (omega (arith, c.requires.node, c.requires.setup.ranking.long)) alone c.out_edge-edge.result.to
    (omega (arith, e.node_to, c.requires.setup.ranking.long)) (omega (arith, c.rank.ensures, c.rank-rank.ensures, c.if-rank.false, alone.rank))))
