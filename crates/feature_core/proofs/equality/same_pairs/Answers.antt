use Rattle.std.proofs.Common.{arith, ℕ}
use Rattle.feature_edges.proofs.SameLists.{yes, no, is_so, is_not, same_next, same_all, apart_at}
use Rattle.feature_core.proofs.equality.same_pairs.Goals as goal

pub returns-then-not-same_ends : goal.returns-then-not-same_ends
returns-then-not-same_ends c = no _ (apart_at {Y = ℕ × ℕ} (λ e. (e.from, e.to)) c.args.a.now.edges c.args.b.now.edges c.loop-ix.ix c.edge-one.result c.edge-other.result
    c.edge-one.ensures c.edge-other.ensures (is_not c.same_ends.result _ c.same_ends.ensures c.if-not-same_ends.true))

pub loop-ix-preserved : goal.loop-ix-preserved
loop-ix-preserved c = same_next {Y = ℕ × ℕ} (λ e. (e.from, e.to)) c.args.a.now.edges c.args.b.now.edges c.loop-ix.ix c.edge-one.result c.edge-other.result
    c.edge-one.ensures c.edge-other.ensures (is_so c.same_ends.result _ c.same_ends.ensures c.if-not-same_ends.false) c.loop-ix.invariant

pub returns : goal.returns
returns c = yes _ (same_all {Y = ℕ × ℕ} (λ e. (e.from, e.to)) c.args.a.now.edges c.args.b.now.edges c.loop-ix.ix (omega arith) (omega arith) c.loop-ix.invariant)
