use Rattle.std.proofs.Common.{arith}
use Rattle.feature_edges.specs.guppy_packages.Platform.{spec_text}
use Rattle.feature_edges.proofs.SameLists.{yes, no, is_so, is_not, read, same_next, same_all, apart_at}
use Rattle.feature_core.proofs.equality.same_specs.Goals as goal

pub returns-then-not-same_spec : goal.returns-then-not-same_spec
returns-then-not-same_spec c = no _ (apart_at spec_text c.args.a.now c.args.b.now c.loop-ix.ix c.index-a-ix.result c.index-b-ix.result
    (read c.args.a.now c.loop-ix.ix c.index-a-ix.result (omega arith) c.index-a-ix.is) (read c.args.b.now c.loop-ix.ix c.index-b-ix.result (omega arith) c.index-b-ix.is)
    (is_not c.same_spec.result _ c.same_spec.ensures c.if-not-same_spec.true))

pub loop-ix-preserved : goal.loop-ix-preserved
loop-ix-preserved c = same_next spec_text c.args.a.now c.args.b.now c.loop-ix.ix c.index-a-ix.result c.index-b-ix.result
    (read c.args.a.now c.loop-ix.ix c.index-a-ix.result (omega arith) c.index-a-ix.is) (read c.args.b.now c.loop-ix.ix c.index-b-ix.result (omega arith) c.index-b-ix.is)
    (is_so c.same_spec.result _ c.same_spec.ensures c.if-not-same_spec.false) c.loop-ix.invariant

pub returns : goal.returns
returns c = yes _ (same_all spec_text c.args.a.now c.args.b.now c.loop-ix.ix (omega arith) (omega arith) c.loop-ix.invariant)
