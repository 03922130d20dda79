use Rattle.std.proofs.Common.{arith}
use Rattle.feature_edges.specs.Warnings.{warning_of}
use Rattle.feature_edges.proofs.SameLists.{yes, no, is_so, is_not, read, same_next, same_all, apart_at}
use Rattle.feature_core.proofs.equality.same_warnings.Goals as goal

pub returns-then-not-warning_equality : goal.returns-then-not-warning_equality
returns-then-not-warning_equality c = no _ (apart_at warning_of c.args.a.now c.args.b.now c.loop-ix.ix c.index-a-ix.result c.index-b-ix.result
    (read c.args.a.now c.loop-ix.ix c.index-a-ix.result (omega arith) c.index-a-ix.is) (read c.args.b.now c.loop-ix.ix c.index-b-ix.result (omega arith) c.index-b-ix.is)
    (is_not c.warning_equality.result _ c.warning_equality.ensures c.if-not-warning_equality.true))

pub loop-ix-preserved : goal.loop-ix-preserved
loop-ix-preserved c = same_next warning_of c.args.a.now c.args.b.now c.loop-ix.ix c.index-a-ix.result c.index-b-ix.result
    (read c.args.a.now c.loop-ix.ix c.index-a-ix.result (omega arith) c.index-a-ix.is) (read c.args.b.now c.loop-ix.ix c.index-b-ix.result (omega arith) c.index-b-ix.is)
    (is_so c.warning_equality.result _ c.warning_equality.ensures c.if-not-warning_equality.false) c.loop-ix.invariant

pub returns : goal.returns
returns c = yes _ (same_all warning_of c.args.a.now c.args.b.now c.loop-ix.ix (omega arith) (omega arith) c.loop-ix.invariant)
