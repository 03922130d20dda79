use Rattle.std.proofs.Common.{arith}
use Rattle.feature_edges.specs.feature_links.Values.{edge_facts}
use Rattle.feature_edges.proofs.SameLists.{yes, no, is_so, is_not, same_next, plain_all, plain_apart}
use Rattle.feature_core.proofs.equality.same_edges.Goals as goal

pub returns-then-not-same_edge : goal.returns-then-not-same_edge
returns-then-not-same_edge c = no _ (plain_apart c.args.a.now c.args.b.now c.loop-ix.ix (edge_facts c.get-one.result.now) (edge_facts c.get-other.result.now)
    c.get-one.ensures c.get-other.ensures (is_not c.same_edge.result _ c.same_edge.ensures c.if-not-same_edge.true))

pub loop-ix-preserved : goal.loop-ix-preserved
loop-ix-preserved c = same_next (λ z. z) c.args.a.now c.args.b.now c.loop-ix.ix (edge_facts c.get-one.result.now) (edge_facts c.get-other.result.now)
    c.get-one.ensures c.get-other.ensures (is_so c.same_edge.result _ c.same_edge.ensures c.if-not-same_edge.false) c.loop-ix.invariant

pub returns : goal.returns
returns c = yes _ (plain_all c.args.a.now c.args.b.now c.loop-ix.ix (omega arith) (omega arith) c.loop-ix.invariant)
